-- A message that can be written has the rows that it says.
use mathlib.Core.Path.{◌≡◌, refl}
use mathlib.Core.List.{List}
use Prim.Native.Nat.{ℕ}
use Rattle.varint.specs.declared.error.Refusal.{Refusal}
use Rattle.varint.proofs.Basics.{never}
use Rattle.desc.specs.Emitting.{then_names}
use Rattle.protocol.specs.declared.message.Message.{Message}
use Rattle.protocol.specs.declared.message.Message.TheVariants as Msg
use Rattle.protocol.specs.declared.message.RowKind.{RowKind}
use Rattle.protocol.specs.declared.message.RowKind.TheVariants as K
use Rattle.protocol_write.specs.Inner.Checking.{there, numbers_told, nodes_fine, rows_names, rows_fine, startup_fine, fetch_fine, fine, RowsFine}
use Rattle.std.specs.Prelude.{Result, Ok, Err}

first_good : (v w : Result (Unit {0}) Refusal) → then_names v w ≡ Ok tt → v ≡ Ok tt
unfolding then_names
first_good (Ok x) w h = refl
first_good (Err e) w h = never cc

rest_good : (v w : Result (Unit {0}) Refusal) → then_names v w ≡ Ok tt → w ≡ Ok tt
unfolding then_names
rest_good (Ok x) w h = h
rest_good (Err e) w h = never cc

module _ (limit : ℕ) (tx rs nd : List ℕ) where
  rows_good : (kind : RowKind) (count : ℕ) → rows_fine kind limit tx rs nd count ≡ Ok tt → RowsFine kind limit rs nd count
  unfolding rows_fine
  rows_good kind count h =
      let laid = then_names (nodes_fine kind limit rs nd count) (rows_names kind limit tx rs nd count 0) in
      let numbered = then_names (numbers_told kind rs count) laid in (
        first_good (there kind rs count) numbered h,
        first_good (nodes_fine kind limit rs nd count) (rows_names kind limit tx rs nd count 0)
            (rest_good (numbers_told kind rs count) laid (rest_good (there kind rs count) numbered h)),
      )

  abbrev pub BodyFine : Message → Type 0
  BodyFine (Msg.Startup version database mode fingerprint count) = RowsFine K.Claim limit rs nd count
  BodyFine (Msg.Ready version fingerprint predicates) = Unit
  BodyFine (Msg.Error code text) = Unit
  BodyFine (Msg.Complete first second) = Unit
  BodyFine (Msg.Ids count) = RowsFine K.Id limit rs nd count
  BodyFine (Msg.Types count) = RowsFine K.Predicate limit rs nd count
  BodyFine (Msg.Control op database allow schema) = Unit
  BodyFine (Msg.Reply reply) = Unit
  BodyFine (Msg.Profile count) = RowsFine K.Step limit rs nd count
  BodyFine (Msg.Page most cursor query) = Unit
  BodyFine (Msg.Fetch digest count) = RowsFine K.Pair limit rs nd count
  BodyFine (Msg.ListingDigest predicate digest) = Unit
  BodyFine (Msg.Opaque payload) = Unit

  pub body_fine : (m : Message) → fine limit m tx rs nd ≡ Ok tt → BodyFine m
  unfolding fine startup_fine fetch_fine nodes_fine
  body_fine (Msg.Startup version database mode fingerprint count) h = (first_good (there K.Claim rs count) _ h, refl)
  body_fine (Msg.Ready version fingerprint predicates) h = tt
  body_fine (Msg.Error code text) h = tt
  body_fine (Msg.Complete first second) h = tt
  body_fine (Msg.Ids count) h = (h, refl)
  body_fine (Msg.Types count) h = rows_good K.Predicate count h
  body_fine (Msg.Control op database allow schema) h = tt
  body_fine (Msg.Reply reply) h = tt
  body_fine (Msg.Profile count) h = rows_good K.Step count h
  body_fine (Msg.Page most cursor query) h = tt
  body_fine (Msg.Fetch digest count) h = (first_good (there K.Pair rs count) _ h, refl)
  body_fine (Msg.ListingDigest predicate digest) h = tt
  body_fine (Msg.Opaque payload) h = tt
