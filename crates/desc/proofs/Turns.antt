-- One turn of the loop over the children: what it leaves of what is to be read.
use mathlib.Core.Path.{◌≡◌, refl, sym, ◌∙◌}
use mathlib.Core.List.{List}
use Prim.Native.Nat.{ℕ, ◌+◌, ◌-◌, ◌≤◌, ◌<◌}
use native.Mathlib.Omega.{arith}
use lib.ListN.{length}
use lib.Seq.{sets}
use Rattle.varint.specs.Got.{Got}
use Rattle.varint.specs.Stores.{part}
use Rattle.varint.specs.declared.error.Refusal.{Refusal}
use Rattle.varint.proofs.Gots.{got_of, no_got}
use Rattle.varint.proofs.StoreLaws.{length_part}
use Rattle.desc.specs.declared.Memory.{Memory}
use Rattle.desc.specs.declared.Walked.{Walked}
use Rattle.desc.specs.declared.head.Label.{Label}
use Rattle.desc.specs.Reading.{label_at, children, named_label}
use Rattle.desc.specs.Trees.{Tree}
use Rattle.desc.specs.Inner.Walking.{walked_to, outcome, outcome_kids, Labels, Agrees}
use Rattle.desc.proofs.HeadLaws.{label_inside}
use Rattle.desc.proofs.KidLaws.{left_after, one_more, label_refused, kid_refused}
use Rattle.desc.proofs.Outcomes.{more_law, none_law, agrees_read, agrees_refused}
use Rattle.std.specs.Prelude.{Result, Ok, Err}
use Rattle.varint.specs.Texts.{span}

-- what is told where a child's label was read
pub record Labelled (s : List ℕ) (g : Got Label) (before after : Memory) (l : Label) (q : ℕ) : Type 0 where
  pub from : ℕ
  pub is : g ≡ Ok (named_label (span from l.name.len) l.discriminant, q)
  pub place : l.name.start ≡ before.t
  pub copied : after.text.now ≡ sets before.text.now before.t (part s from l.name.len)
  pub t : after.t ≡ before.t + l.name.len
  pub nodes : after.nodes.now ≡ before.nodes.now
  pub n : after.n ≡ before.n

module _ (s : List ℕ) (before after : Memory) where
  pub label_had : (g : Got Label) {x : Got Label} {l : Label} {q : ℕ} → Labels s g before after x → x ≡ Ok (l, q) → Labelled s g before after l q
  label_had (Ok (h, o)) e i =
      let w = got_of (sym e.0 ∙ i) in
      rw (← w.0, ← w.1) (record { from = h.name.start; is = refl; place = refl; copied = e.1; t = e.2; nodes = e.3; n = e.4 })
  label_had (Err r) e i = no_got (sym e ∙ i)

  pub label_lacks : (g : Got Label) {x : Got Label} {r : Refusal} → Labels s g before after x → x ≡ Err r → g ≡ Err r
  label_lacks (Ok (h, o)) e i = no_got (sym i ∙ e.0)
  label_lacks (Err r) e i = sym e ∙ i

  -- the child itself, as it is told of the memory before its label
  pub child_told : {g : Got Label} {l : Label} {q : ℕ} (w : Labelled s g before after l q) (D : Got (Tree (List ℕ))) (end : ℕ) (r : Result Walked Refusal) (tx nd : List ℕ)
      → Agrees (outcome D after.text.now after.t after.nodes.now after.n (l.name.start, l.name.len) l.discriminant) end r tx nd
      → Agrees (outcome D after.text.now (before.t + l.name.len) before.nodes.now before.n (before.t, l.name.len) l.discriminant) end r tx nd
  child_told w D end r tx nd a = rw (w.t, w.place, w.nodes, w.n) at a

module _ (rd : ℕ → Got (Tree (List ℕ))) (s : List ℕ) (tag : ℕ) where
  -- a child was read
  pub turn : (count i p from len d body e t m t₂ m₂ end : ℕ) (tx tx₁ tx₂ nd nd₂ : List ℕ) (r : Result Walked Refusal)
      → i < count → label_at s tag p ≡ Ok (named_label (span from len) d, body) → tx₁ ≡ sets tx t (part s from len)
      → Agrees (outcome (rd body) tx₁ (t + len) nd m (t, len) d) end r tx₂ nd₂ → r ≡ Ok (walked_to e t₂ m₂)
      → outcome_kids (children rd s tag (count - i) p) tx t nd m ≡ outcome_kids (children rd s tag (count - (i + 1)) e) tx₂ t₂ nd₂ m₂
  turn count i p from len d body e t m t₂ m₂ end tx tx₁ tx₂ nd nd₂ r lt label copied agrees is =
      let f = agrees_read (rd body) tx₁ (t + len) nd m (t, len) d end r tx₂ nd₂ e t₂ m₂ agrees is in
      let k = count - (i + 1) in
      let w = label_inside s tag p from len d body label in
      let w₁ = w.1 in
      let w₂ = w.2 in
      let ln : length (part s from len) ≡ len = length_part s from len (omega arith) in
      let l = more_law (children rd s tag k e) (part s from len) d f.tree tx t nd m in
      let e₁ = f.text_end in
      let e₂ = f.node_end in
      let e₃ = f.text_is in
      let e₄ = f.nodes_are in
      rw (left_after lt, one_more rd s tag k p from len d body e f.tree label f.is, l, ln, ← copied, ← e₁, ← e₂, ← e₃, ← e₄) refl

  module _ (count i p t m end : ℕ) (tx nd tx' nd' : List ℕ) (e : Refusal) (lt : i < count) where
    abbrev Refused : Type 0
    Refused = Agrees (outcome_kids (children rd s tag (count - i) p) tx t nd m) end (Err e) tx' nd'

    -- its label was refused
    pub turn_label : label_at s tag p ≡ Err e → Refused
    unfolding outcome_kids Agrees
    turn_label label = rw (left_after lt, label_refused rd s tag (count - (i + 1)) p e label) refl

    -- the child was refused
    pub turn_refused : (from len d body last : ℕ) (tx₁ tx₂ nd₂ : List ℕ) (r : Result Walked Refusal)
        → label_at s tag p ≡ Ok (named_label (span from len) d, body)
        → Agrees (outcome (rd body) tx₁ (t + len) nd m (t, len) d) last r tx₂ nd₂ → r ≡ Err e → Refused
    unfolding outcome_kids Agrees
    turn_refused from len d body last tx₁ tx₂ nd₂ r label agrees is =
        let b = agrees_refused (rd body) tx₁ (t + len) nd m (t, len) d last r tx₂ nd₂ e agrees is in
        rw (left_after lt, kid_refused rd s tag (count - (i + 1)) p from len d body e label b) refl

  -- no child is left
  pub turn_end : (count i p t m end : ℕ) (tx nd : List ℕ) → count ≤ i → t + m ≤ p → p ≤ end
      → Agrees (outcome_kids (children rd s tag (count - i) p) tx t nd m) end (Ok (walked_to p t m)) tx nd
  unfolding Agrees children
  turn_end count i p t m end tx nd l b f =
      let c : count - i ≡ 0 = omega arith in
      rw (c, none_law p tx t nd m) (refl, refl, refl, b, f)
