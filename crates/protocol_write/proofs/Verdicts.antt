-- What the tests before writing find is what is wrong with the message.
use mathlib.Core.Bool.{Bool, true, false}
use mathlib.Core.Path.{◌≡◌, refl, ◌∙◌, ap}
use mathlib.Core.List.{List, ◌∷◌}
use Prim.Native.Nat.{ℕ, zero, suc, ◌+◌, ◌*◌}
use lib.Dec.{ltb}
use lib.ListN.{length, get_or}
use Rattle.varint.specs.Choice.{pick}
use Rattle.varint.specs.Gathering.{Held, held, lacks, then_held, text_held, name_held}
use Rattle.varint.specs.declared.error.Fault.TheVariants.{RowCount, Number}
use Rattle.varint.specs.declared.error.Refusal.{Refusal}
use Rattle.varint.specs.declared.error.Refusal.TheVariants.{BadMessage, BlockTooLarge}
use Rattle.desc.specs.Emitting.{verdict, then_names}
use Rattle.desc.specs.Encoding.{held_in}
use Rattle.desc.specs.Table.{cell, table}
use Rattle.desc.specs.Trees.{Tree}
use Rattle.protocol.specs.Control.{held_control}
use Rattle.protocol.specs.Encoding.{held_said}
use Rattle.protocol.specs.Error.{held_error}
use Rattle.protocol.specs.Fetch.{max_fetch, held_fetch}
use Rattle.protocol.specs.Fields.{yes, Optional, absent, present}
use Rattle.protocol.specs.Ids.{held_id, held_ids}
use Rattle.protocol.specs.Page.{raw_held, held_page}
use Rattle.protocol.specs.Profile.{held_step, step_numbers, held_profile}
use Rattle.protocol.specs.Reply.{created, held_reply}
use Rattle.protocol.specs.Rows.{width_of}
use Rattle.protocol.specs.RowsHeld.{held_times, all_good}
use Rattle.protocol.specs.Said.{said_startup, said_error, said_ids, said_types, said_control, said_reply, said_profile, said_page, said_fetch, opaque}
use Rattle.protocol.specs.Startup.{held_claim, held_startup}
use Rattle.protocol.specs.Types.{type_numbers, types_laid, held_predicate, held_types}
use Rattle.protocol.specs.declared.message.ControlReply.TheVariants as R
use Rattle.protocol.specs.declared.message.Message.{Message}
use Rattle.protocol.specs.declared.message.Message.TheVariants as Msg
use Rattle.protocol.specs.declared.message.RowKind.{RowKind}
use Rattle.protocol.specs.declared.message.RowKind.TheVariants as K
use Rattle.protocol_write.specs.Inner.Checking.{row_good, numbers_fine, numbers_told, there, nodes_fine, value_root, value_names, row_names, rows_names, rows_fine, reply_fine, startup_fine, fetch_fine, fine}
use Rattle.protocol_write.proofs.RowLoops.{no_names}
use Rattle.std.specs.Prelude.{Result, Ok, Err, Some, None}
use Rattle.varint.specs.Texts.{span}

-- Verdicts of what is taken out of memory one after the other

verdict_then : {A B : Type 0} (H : Held A) (k : A → Held B) (v : Result (Unit {0}) Refusal) → ((a : A) → verdict (k a) ≡ v) → verdict (then_held H k) ≡ then_names (verdict H) v
unfolding verdict then_names
verdict_then (held a) k v h = h a
verdict_then (lacks e) k v h = refl

verdict_as : {A B : Type 0} (H : Held A) (f : A → B) → verdict (then_held H (λ a. held (f a))) ≡ verdict H
unfolding verdict
verdict_as (held a) f = refl
verdict_as (lacks e) f = refl

-- two things, one after the other
verdict_two : {A B C : Type 0} (H : Held A) (K : Held B) (f : A → B → C)
    → verdict (then_held H (λ a. then_held K (λ b. held (f a b)))) ≡ then_names (verdict H) (verdict K)
verdict_two H K f = verdict_then H (λ a. then_held K (λ b. held (f a b))) (verdict K) (λ a. verdict_as K (f a))

-- what comes after a test that must fail, or after one that must hold
verdict_unless : {A : Type 0} (few : Bool) (e : Refusal) (H : Held A) (v : Result (Unit {0}) Refusal) → verdict H ≡ v
    → verdict (pick few (lacks e) H) ≡ then_names (pick few (Err e) (Ok tt)) v
unfolding verdict then_names
verdict_unless true e H v h = refl
verdict_unless false e H v h = h

verdict_where : {A : Type 0} (good : Bool) (e : Refusal) (H : Held A) (v : Result (Unit {0}) Refusal) → verdict H ≡ v
    → verdict (pick good H (lacks e)) ≡ then_names (pick good (Ok tt) (Err e)) v
unfolding verdict then_names
verdict_where true e H v h = h
verdict_where false e H v h = refl

-- nothing else is looked at
verdict_only : {A : Type 0} (few : Bool) (e : Refusal) (H : Held A) → verdict H ≡ Ok tt → verdict (pick few (lacks e) H) ≡ pick few (Err e) (Ok tt)
unfolding verdict
verdict_only true e H h = refl
verdict_only false e H h = h

module _ (limit : ℕ) (tx rs nd : List ℕ) where
  value_verdict : (has key : ℕ)
      → verdict (pick (yes has) (then_held (held_in (table limit nd (cell nd key 6) 0) tx) (λ v. held (present v))) (held absent)) ≡ value_names limit tx nd (value_root nd has key)
  unfolding value_names value_root verdict
  value_verdict has key = go (yes has)
    where
      D : Held (Tree (List ℕ))
      D = held_in (table limit nd (cell nd key 6) 0) tx

      go : (b : Bool) → verdict (pick b (then_held D (λ v. held (present v))) (held absent)) ≡ value_names limit tx nd (pick b (Some (cell nd key 6)) None)
      go true = verdict_as D present
      go false = refl

  type_verdict : (r : ℕ) → verdict (held_predicate limit tx rs nd r) ≡ row_names K.Predicate limit tx rs nd r
  unfolding held_predicate row_names
  type_verdict r =
      let has = get_or rs (r + 4) 0 in
      let key = get_or rs (r + 5) 0 in
      let D : Held (Tree (List ℕ)) = held_in (table limit nd key 0) tx in
      let O : Held (Optional (Tree (List ℕ))) = pick (yes has) (then_held (held_in (table limit nd (cell nd key 6) 0) tx) (λ v. held (present v))) (held absent) in
      verdict_then (name_held tx (get_or rs (r + 1) 0) (get_or rs (r + 2) 0)) _ (then_names (verdict D) (value_names limit tx nd (value_root nd has key)))
      (λ x.
      verdict_then D _ (value_names limit tx nd (value_root nd has key))
      (λ k. verdict_as O (λ v. record { id = get_or rs r 0; name = x; virtual = yes (get_or rs (r + 3) 0); key = k; value = v }) ∙ value_verdict has key))

  rows_verdict : {A : Type 0} (row : ℕ → Held A) (kind : RowKind) → ((r : ℕ) → verdict (row r) ≡ row_names kind limit tx rs nd r)
      → (n r : ℕ) → verdict (held_times row (width_of kind) n r) ≡ rows_names kind limit tx rs nd n r
  unfolding held_times rows_names verdict
  rows_verdict row kind h zero r = refl
  rows_verdict row kind h (suc n) r =
      verdict_two (row r) (held_times row (width_of kind) n (r + width_of kind)) (λ a l. a ∷ l)
      ∙ rw (h r, rows_verdict row kind h n (r + width_of kind))

  claims_verdict : (count : ℕ) → verdict (held_times (held_claim tx rs) 3 count 0) ≡ rows_names K.Claim limit tx rs nd count 0
  unfolding held_claim row_names
  claims_verdict count =
      rows_verdict (held_claim tx rs) K.Claim
      (λ r. verdict_as (name_held tx (get_or rs r 0) (get_or rs (r + 1) 0)) (λ x. record { name = x; fingerprint = get_or rs (r + 2) 0 }))
      count
      0

  steps_verdict : (count : ℕ) → verdict (held_times (held_step tx rs) 4 count 0) ≡ rows_names K.Step limit tx rs nd count 0
  unfolding held_step row_names
  steps_verdict count =
      rows_verdict (held_step tx rs) K.Step
      (λ r.
      verdict_as (name_held tx (get_or rs r 0) (get_or rs (r + 1) 0))
      (λ x. record { label = x; examined = get_or rs (r + 2) 0; full_scan = yes (get_or rs (r + 3) 0) }))
      count
      0

  types_verdict : (count : ℕ) → verdict (held_times (held_predicate limit tx rs nd) 6 count 0) ≡ rows_names K.Predicate limit tx rs nd count 0
  types_verdict count = rows_verdict (held_predicate limit tx rs nd) K.Predicate type_verdict count 0

  -- ids and pairs have no text
  ids_verdict : (count : ℕ) → verdict (held_times (held_id rs) 1 count 0) ≡ Ok tt
  unfolding row_names verdict
  ids_verdict count = rows_verdict (held_id rs) K.Id (λ r. refl) count 0 ∙ no_names K.Id limit tx rs nd (λ r. refl) count 0

  -- what the tests find
  pub fine_said : (m : Message) → verdict (held_said limit m tx rs nd) ≡ fine limit m tx rs nd
  unfolding held_said fine row_names held_startup held_error held_ids held_types held_control held_reply held_profile held_page held_fetch startup_fine fetch_fine there rows_fine numbers_told reply_fine numbers_fine row_good nodes_fine then_names verdict name_held
  fine_said (Msg.Startup version database mode fingerprint count) =
      let N = name_held tx database.start database.len in
      verdict_as (held_startup version database mode fingerprint count tx rs) said_startup
      ∙ verdict_unless (ltb (length rs) (count * 3)) (BadMessage RowCount) _ (then_names (verdict N) (rows_names K.Claim limit tx rs nd count 0))
      (verdict_two N (held_times (held_claim tx rs) 3 count 0) (λ d l. record { version = version; database = d; mode = mode; fingerprint = fingerprint; claims = l })
      ∙ ap (then_names (verdict N)) (claims_verdict count))
  fine_said (Msg.Ready version fingerprint predicates) = refl
  fine_said (Msg.Error code text) =
      verdict_as (held_error code text tx) said_error ∙ verdict_as (text_held tx text.start text.len) (λ x. record { code = code; text = x })
  fine_said (Msg.Complete first second) = refl
  fine_said (Msg.Ids count) =
      verdict_as (held_ids count rs) said_ids
      ∙ verdict_only (ltb (length rs) (count * 1)) (BadMessage RowCount) (held_times (held_id rs) 1 count 0) (ids_verdict count)
  fine_said (Msg.Types count) =
      let L = types_laid limit rs nd count 0 0 in
      let T = held_times (held_predicate limit tx rs nd) 6 count 0 in
      let v = then_names (verdict L) (rows_names K.Predicate limit tx rs nd count 0) in
      let good = all_good (type_numbers rs) 6 count 0 in
      verdict_as (held_types limit count tx rs nd) said_types
      ∙ verdict_unless (ltb (length rs) (count * 6)) (BadMessage RowCount) _ (then_names (pick good (Ok tt) (Err (BadMessage Number))) v)
      (verdict_where good (BadMessage Number) (then_held L (λ _. T)) v (verdict_then L (λ _. T) (rows_names K.Predicate limit tx rs nd count 0) (λ _. types_verdict count)))
  fine_said (Msg.Control op database allow schema) =
      verdict_as (held_control op database allow schema tx) said_control
      ∙ verdict_two (name_held tx database.start database.len) (text_held tx schema.start schema.len)
      (λ d x. record { op = op; database = d; allow_zero_facts = allow; schema = x })
  fine_said (Msg.Reply (R.Created span)) =
      verdict_as (held_reply (R.Created span) tx) said_reply ∙ verdict_as (name_held tx span.start span.len) created
  fine_said (Msg.Reply (R.Finished fingerprint facts bytes complete)) = refl
  fine_said (Msg.Reply R.Removed) = refl
  fine_said (Msg.Profile count) =
      let v = rows_names K.Step limit tx rs nd count 0 in
      let good = all_good (step_numbers rs) 4 count 0 in
      verdict_as (held_profile count tx rs) said_profile
      ∙ verdict_unless (ltb (length rs) (count * 4)) (BadMessage RowCount) _ (then_names (pick good (Ok tt) (Err (BadMessage Number))) v)
      (verdict_where good (BadMessage Number) (held_times (held_step tx rs) 4 count 0) v (steps_verdict count))
  fine_said (Msg.Page most cursor query) =
      verdict_as (held_page most cursor query tx) said_page
      ∙ verdict_two (raw_held tx cursor.start cursor.len) (text_held tx query.start query.len) (λ c x. record { limit = most; cursor = c; query = x })
  fine_said (Msg.Fetch digest count) =
      let L = held_times (held_id rs) 1 count 0 in
      verdict_as (held_fetch digest count rs) said_fetch
      ∙ verdict_unless (ltb (length rs) (count * 1)) (BadMessage RowCount) _ (pick (ltb max_fetch count) (Err (BlockTooLarge count max_fetch)) (Ok tt))
      (verdict_only (ltb max_fetch count) (BlockTooLarge count max_fetch) _ (verdict_as L (λ l. record { digest = digest; ids = l }) ∙ ids_verdict count))
  fine_said (Msg.ListingDigest predicate digest) = refl
  fine_said (Msg.Opaque payload) = verdict_as (raw_held tx payload.start payload.len) opaque
