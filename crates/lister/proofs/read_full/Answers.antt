-- A turn's bytes stand behind those that were read before.
use Rattle.std.proofs.Common.{rules, arith, ℕ, ◌≡◌, ◌+◌, ◌-◌, ◌≤◌, List, ◌++◌, length, take, drop, sym, ap, ◌∙◌, subst, le_refl}
use Rattle.std.proofs.lemmas.List.{take-take}
use Rattle.std.proofs.lemmas.Slice.{take-put_mid_below, between-put_mid}
use Rattle.std.proofs.Math.Seq.{take-add}
use Rattle.std.specs.Io.KnownBytes.{Consumes}
use Rattle.std.proofs.KnownBytes.{Consumes-trans}
use borrow.Rule.Slice.PartMut.{put_mid}
use Rattle.lister.proofs.read_full.Goals as goal

-- the first bytes of a buffer xs of which the part from `at` on became ys
joined : (at k n : ℕ) (xs ys : List ℕ) → at ≤ length xs → n ≤ length ys → take (at + n) (put_mid at k xs ys) ≡ take at xs ++ take n ys
joined at k n xs ys within fits =
    let after : List ℕ = put_mid at k xs ys in
    let end : ℕ = at + length ys in
    let room : length ys ≡ end - at = omega arith in
    let most : n ≤ end - at = omega arith in
    let all : take (end - at) (drop at after) ≡ ys = between-put_mid at k xs ys end within room in
    take-add at n after
    ∙ ap (λ l. l ++ take n (drop at after)) (take-put_mid_below at k xs ys at (le_refl at) within)
    ∙ ap (λ l. take at xs ++ l) (sym (take-take n (end - at) (drop at after) most) ∙ ap (take n) all)

pub loop-count-preserved : goal.loop-count-preserved
loop-count-preserved g c =
    let l = c.loop-count in
    let r = c.in_ok-n.ensures in
    let all = joined l.count (length l.buf - l.count) c.in_ok-n.n l.buf c.read_some.new.buf l.invariant.0 r.bound.0 in
    (search rules, subst (Consumes _ _) (sym all) (Consumes-trans _ _ _ _ _ l.invariant.1 r.taken))
