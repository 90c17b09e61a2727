use Prim.Native.Nat.{ℕ, ◌+◌, ◌<◌}
use native.Mathlib.Omega.{arith}
use mathlib.Core.Path.{◌≡◌, refl, ◌∙◌}
use mathlib.Core.List.{List, [], ◌∷◌}
use lib.ListN.{length, get_or, drop}
use mathlib.Core.Bool.{◌&&◌}
use Rattle.varint.specs.Utf8.{In, tail}
use Rattle.varint.specs.Inner.Utf8Steps.{second, fit}
use Rattle.varint.proofs.Utf8Laws.{Begun, lead_none, lead_2, lead_3, lead_4, fit_1, fit_2, fit_3, char_bad, char_no, char_short, char_yes}
use Rattle.varint.proofs.utf8.char_width.Goals as goal

-- By the first byte, which says what the bytes after it have to be.
two : {s : List ℕ} {p : ℕ} → p < length s → In 0xC2 0xDF (get_or s p 0) → Begun s p (tail ∷ [])
two k h = record { here = k; asked = lead_2 _ h }

three : {s : List ℕ} {p : ℕ} → p < length s → In 0xE0 0xEF (get_or s p 0) → Begun s p (second (get_or s p 0) ∷ tail ∷ [])
three k h = record { here = k; asked = lead_3 _ h }

four : {s : List ℕ} {p : ℕ} → p < length s → In 0xF0 0xF4 (get_or s p 0) → Begun s p (second (get_or s p 0) ∷ tail ∷ tail ∷ [])
four k h = record { here = k; asked = lead_4 _ h }

pub returns-then-a-lt194 : goal.returns-then-a-lt194
returns-then-a-lt194 c = char_bad _ _ c.requires.0 (lead_none 0x80 0xC1 _ refl (omega arith, omega arith))

pub returns-then-left-lt2 : goal.returns-then-left-lt2
returns-then-left-lt2 c = char_short (two c.requires.0 (omega arith, omega arith)) (omega arith)

pub returns-then-is_tail : goal.returns-then-is_tail
returns-then-is_tail c =
    let e = fit_1 c.args.s.now tail (c.args.p + 1) (omega arith) in
    let t : fit (tail ∷ []) (drop (c.args.p + 1) c.args.s.now) ≡ c.is_tail.result = cc in
    char_yes (two c.requires.0 (omega arith, omega arith)) 2 refl (t ∙ c.if-is_tail.true)

pub returns-then-a-lt224 : goal.returns-then-a-lt224
returns-then-a-lt224 c =
    let e = fit_1 c.args.s.now tail (c.args.p + 1) (omega arith) in
    let t : fit (tail ∷ []) (drop (c.args.p + 1) c.args.s.now) ≡ c.is_tail.result = cc in
    char_no (two c.requires.0 (omega arith, omega arith)) (t ∙ c.if-is_tail.false)

pub returns-then-left-lt3 : goal.returns-then-left-lt3
returns-then-left-lt3 c = char_short (three c.requires.0 (omega arith, omega arith)) (omega arith)

pub returns-then-is_second-is_tail : goal.returns-then-is_second-is_tail
returns-then-is_second-is_tail c =
    let e = fit_2 c.args.s.now (second (get_or c.args.s.now c.args.p 0)) tail (c.args.p + 1) (c.args.p + 2) (omega arith) (omega arith) in
    let t : fit (second (get_or c.args.s.now c.args.p 0) ∷ tail ∷ []) (drop (c.args.p + 1) c.args.s.now) ≡ (c.is_second.result && c.is_tail-then-a-lt240.result) = cc in
    char_yes (three c.requires.0 (omega arith, omega arith)) 3 refl (t ∙ c.if-is_second-is_tail.true)

pub returns-then-a-lt240 : goal.returns-then-a-lt240
returns-then-a-lt240 c =
    let e = fit_2 c.args.s.now (second (get_or c.args.s.now c.args.p 0)) tail (c.args.p + 1) (c.args.p + 2) (omega arith) (omega arith) in
    let t : fit (second (get_or c.args.s.now c.args.p 0) ∷ tail ∷ []) (drop (c.args.p + 1) c.args.s.now) ≡ (c.is_second.result && c.is_tail-then-a-lt240.result) = cc in
    char_no (three c.requires.0 (omega arith, omega arith)) (t ∙ c.if-is_second-is_tail.false)

pub returns-then-a-gt244 : goal.returns-then-a-gt244
returns-then-a-gt244 c = char_bad _ _ c.requires.0 (lead_none 0xF5 (get_or c.args.s.now c.args.p 0) (get_or c.args.s.now c.args.p 0) refl (omega arith, omega arith))

pub returns-then-left-lt4 : goal.returns-then-left-lt4
returns-then-left-lt4 c = char_short (four c.requires.0 (omega arith, omega arith)) (omega arith)

pub returns-then-is_second-is_tail-2 : goal.returns-then-is_second-is_tail-2
returns-then-is_second-is_tail-2 c =
    let e = fit_3 c.args.s.now (second (get_or c.args.s.now c.args.p 0)) tail tail (c.args.p + 1) (c.args.p + 2) (c.args.p + 3) (omega arith) (omega arith) (omega arith) in
    let t : fit (second (get_or c.args.s.now c.args.p 0) ∷ tail ∷ tail ∷ []) (drop (c.args.p + 1) c.args.s.now) ≡ (c.is_second-2.result && c.is_tail-2.result && c.is_tail-3.result) = cc in
    char_yes (four c.requires.0 (omega arith, omega arith)) 4 refl (t ∙ c.if-is_second-is_tail-2.true)

pub returns : goal.returns
returns c =
    let e = fit_3 c.args.s.now (second (get_or c.args.s.now c.args.p 0)) tail tail (c.args.p + 1) (c.args.p + 2) (c.args.p + 3) (omega arith) (omega arith) (omega arith) in
    let t : fit (second (get_or c.args.s.now c.args.p 0) ∷ tail ∷ tail ∷ []) (drop (c.args.p + 1) c.args.s.now) ≡ (c.is_second-2.result && c.is_tail-2.result && c.is_tail-3.result) = cc in
    char_no (four c.requires.0 (omega arith, omega arith)) (t ∙ c.if-is_second-is_tail-2.false)
