-- Two answers of a writer that are one: the same node after it, and the same place.
use mathlib.Core.Path.{◌≡◌, ap}
use Rattle.desc.specs.declared.write.Emitted.{Emitted}
use Rattle.std.specs.Prelude.{Some}

pub emitted_of : {e f : Emitted} → Some e ≡ Some f → (e.next ≡ f.next) × (e.place ≡ f.place)
emitted_of {e} {f} h =
    let w : e ≡ f = cc in
    (ap (λ (x : Emitted). x.next) w, ap (λ (x : Emitted). x.place) w)
