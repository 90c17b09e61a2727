-- The loop over rows: what it has loaded, and that what is left makes up the whole.
use mathlib.Core.Path.{◌≡◌, refl, sym, ◌∙◌, ap}
use mathlib.Core.List.{List}
use Prim.Native.Nat.{ℕ, suc, ◌-◌, ◌≤◌, ◌<◌}
use native.Mathlib.Omega.{arith}
use Rattle.varint.specs.Formats.{read_times}
use Rattle.varint.specs.Inner.Again.{Again}
use Rattle.varint.specs.declared.error.Refusal.{Refusal}
use Rattle.varint.proofs.Agains.{again_row, again_others}
use Rattle.protocol.specs.Inner.Loading.{Mem, Loaded, told, RowFits}
use Rattle.protocol.specs.Inner.Rows.{row, lay_row}
use Rattle.protocol.specs.declared.message.RowKind.{RowKind}
use Rattle.protocol.proofs.Loads.{went}
use Rattle.protocol.proofs.RowsLaws.{load_row, load_rows, rows_more, rows_none, rows_failed, row_took}
use Rattle.std.specs.Prelude.{Ok, Err}

one_next : {n : ℕ} → 0 < n → n ≡ suc (n - 1)
one_next h = omega arith

module _ (kind : RowKind) (s : List ℕ) {all : Loaded ℕ} {left : ℕ} (p : ℕ) (m : Mem) (is : all ≡ load_rows kind left s p m) where
  pub rows_done : left ≤ 0 → told (Ok p) m ≡ all
  unfolding told
  rows_done h =
      let z : left ≡ 0 = omega arith in
      sym (is ∙ ap (λ (k : ℕ). load_rows kind k s p m) z ∙ rows_none kind s p m)

  module _ (more : 0 < left) where
    split : all ≡ load_rows kind (suc (left - 1)) s p m
    split = rw (one_next more) at is

    pub rows_stop : (e : Refusal) (m' : Mem) → told (Err e) m' ≡ load_row kind s p m → told (Err e) m' ≡ all
    unfolding told
    rows_stop e m' h = sym (split ∙ rows_failed kind (left - 1) s p m _ (sym h))

    pub rows_on : {fewer : ℕ} (q : ℕ) (m' : Mem) → told (Ok q) m' ≡ load_row kind s p m → fewer ≡ left - 1 → all ≡ load_rows kind fewer s q m'
    unfolding told
    rows_on q m' h f = rw f (split ∙ rows_more kind (left - 1) s p _ m _ (sym h))

-- where what is left was accepted, its first row was, and what follows it
module _ (kind : RowKind) (s : List ℕ) {left : ℕ} (at : ℕ) (m : Mem) (more : 0 < left) (h : Again m.check (read_times (row kind m.limit) left s at)) where
  one_more : Again m.check (read_times (row kind m.limit) (suc (left - 1)) s at)
  one_more = rw (one_next more) at h

  pub row_relies : Again m.check ((row kind m.limit).read s at)
  row_relies = again_row (row kind m.limit) (left - 1) s at one_more

  pub rows_rely : {fewer : ℕ} (q : ℕ) (m' : Mem) → told (Ok q) m' ≡ load_row kind s at m → fewer ≡ left - 1 → Again m'.check (read_times (row kind m'.limit) fewer s q)
  rows_rely q m' i f =
      let w = went (lay_row kind) ((row kind m.limit).read s at) m m' _ i refl in
      rw (f, w.left) (again_others (row kind m.limit) (left - 1) s at one_more w.is)

-- what follows a row still fits
pub row_fits : (kind : RowKind) (s : List ℕ) (at q : ℕ) (m m' : Mem) → RowFits s at m → told (Ok q) m' ≡ load_row kind s at m
    → RowFits s q m'
unfolding told
row_fits kind s at q m m' fits h =
    let k = row_took kind s at q m m' fits.0.1 (sym h) in
    let k₁ = k.on in
    let k₂ = k.inside in
    let k₃ = k.texts in
    let k₄ = k.numbers in
    let k₅ = k.rows in
    let f₀ = fits.0.0 in
    let f₁ = fits.1 in
    ((omega arith, k₂), omega arith)
