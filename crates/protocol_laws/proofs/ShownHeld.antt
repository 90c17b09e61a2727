-- A message shows what is said by what its memory holds.
use mathlib.Core.Bool.{true}
use mathlib.Core.Path.{◌≡◌, refl}
use mathlib.Core.List.{List}
use Prim.Native.Nat.{ℕ, ◌*◌}
use lib.Dec.{ltb}
use lib.ListN.{length}
use Rattle.varint.specs.Gathering.{Held, held, then_held, text_held, name_held}
use Rattle.varint.proofs.Basics.{pick_both, pick_cases}
use Rattle.desc.proofs.GatherFine.{HeldAs, then_held_lem}
use Rattle.protocol.specs.Control.{held_control}
use Rattle.protocol.specs.Encoding.{held_as, held_said}
use Rattle.protocol.specs.Error.{held_error}
use Rattle.protocol.specs.Fetch.{Fetch, max_fetch, held_fetch}
use Rattle.protocol.specs.Ids.{id_width, held_id, held_ids}
use Rattle.protocol.specs.Page.{raw_held, held_page}
use Rattle.protocol.specs.Profile.{Step, step_width, step_numbers, held_step, held_profile}
use Rattle.protocol.specs.Reply.{held_reply}
use Rattle.protocol.specs.RowsHeld.{held_times, all_good}
use Rattle.protocol.specs.Said.{Said, said_startup, said_error, said_ids, said_types, said_control, said_reply, said_profile, said_page, said_fetch, opaque}
use Rattle.protocol.specs.Startup.{Startup, claim_width, held_claim, held_startup}
use Rattle.protocol.specs.Types.{held_types}
use Rattle.protocol.specs.declared.message.ControlReply.{ControlReply}
use Rattle.protocol.specs.declared.message.ControlReply.TheVariants as R
use Rattle.protocol.specs.declared.message.Message.{Message}
use Rattle.protocol.specs.declared.message.Message.TheVariants as Msg
use Rattle.protocol.specs.declared.message.Mode.{Mode}
use Rattle.varint.specs.declared.text.Span.{Span}
use Rattle.protocol_laws.specs.Shown.{claim_columns, id_columns, step_columns, row_shown, shown}
use Rattle.protocol_laws.proofs.FineHeld.{times_held, rows_held}
use Rattle.protocol_laws.proofs.ShownRows.{held_weaker, Showing, raw_shown, text_shown, name_shown, Showed, showed_none, showed_more, id_shown, claim_shown, step_shown}
use Rattle.protocol_laws.proofs.ShownSaid.{id_said, claim_said, step_said, shown_said}
use Rattle.protocol_laws.proofs.ShownTypes.{types_shown}
use Rattle.std.specs.Prelude.{Option}

module _ (tx rs nd : List ℕ) where
  -- what is held is said by the message
  abbrev Shows : {A : Type 0} → (A → Said) → Message → A → Type 0
  Shows to message a = shown message tx rs nd ≡ shown_said (to a)

  claims_shown : (count : ℕ) → HeldAs (Showed claim_columns claim_said tx rs count 0) (held_times (held_claim tx rs) claim_width count 0)
  claims_shown =
      rows_held (λ r c. row_shown claim_columns tx rs r ≡ claim_said c 0) (Showed claim_columns claim_said tx rs) (held_claim tx rs) claim_width
      (showed_none claim_columns claim_said tx rs) (showed_more claim_columns claim_said tx rs) (claim_shown tx rs)

  ids_shown : (count : ℕ) → HeldAs (Showed id_columns id_said tx rs count 0) (held_times (held_id rs) id_width count 0)
  ids_shown =
      rows_held (λ r i. row_shown id_columns tx rs r ≡ id_said i 0) (Showed id_columns id_said tx rs) (held_id rs) id_width
      (showed_none id_columns id_said tx rs) (showed_more id_columns id_said tx rs) (id_shown tx rs)

  steps_shown : (count : ℕ) → all_good (step_numbers rs) step_width count 0 ≡ true
      → HeldAs (Showed step_columns step_said tx rs count 0) (held_times (held_step tx rs) step_width count 0)
  steps_shown count =
      times_held (λ r m. row_shown step_columns tx rs r ≡ step_said m 0) (Showed step_columns step_said tx rs) (held_step tx rs) step_width
      (showed_none step_columns step_said tx rs) (showed_more step_columns step_said tx rs) (step_numbers rs) (step_shown tx rs) count 0

  startup_shown : (version : ℕ) (database : Span) (mode : Mode) (fingerprint count : ℕ)
      → HeldAs (Shows said_startup (Msg.Startup version database mode fingerprint count)) (held_startup version database mode fingerprint count tx rs)
  unfolding held_startup shown shown_said
  startup_shown version database mode fingerprint count =
      let P : Startup → Type 0 = Shows said_startup (Msg.Startup version database mode fingerprint count) in
      pick_both (HeldAs P) (ltb (length rs) (count * claim_width)) tt
      (then_held_lem (Showing tx database.start database.len) P (name_held tx database.start database.len) _ (name_shown tx _ _)
      (λ d a.
      then_held_lem (Showed claim_columns claim_said tx rs count 0) P (held_times (held_claim tx rs) claim_width count 0) _ (claims_shown count)
      (λ l b. rw (a, b.1, b.0))))

  fetch_shown : (digest : Option ℕ) (count : ℕ) → HeldAs (Shows said_fetch (Msg.Fetch digest count)) (held_fetch digest count rs)
  unfolding held_fetch shown shown_said
  fetch_shown digest count =
      let P : Fetch → Type 0 = Shows said_fetch (Msg.Fetch digest count) in
      pick_both (HeldAs P) (ltb (length rs) (count * id_width)) tt
      (pick_both (HeldAs P) (ltb max_fetch count) tt
      (then_held_lem (Showed id_columns id_said tx rs count 0) P (held_times (held_id rs) id_width count 0) _ (ids_shown count) (λ l b. rw (b.1, b.0))))

  profile_shown : (count : ℕ) → HeldAs (Shows said_profile (Msg.Profile count)) (held_profile count tx rs)
  unfolding held_profile shown shown_said
  profile_shown count =
      let P : List Step → Type 0 = Shows said_profile (Msg.Profile count) in
      pick_both (HeldAs P) (ltb (length rs) (count * step_width)) tt
      (pick_cases (HeldAs P) (all_good (step_numbers rs) step_width count 0)
      (λ g. held_weaker (Showed step_columns step_said tx rs count 0) P (held_times (held_step tx rs) step_width count 0) (steps_shown count g) (λ l b. rw (b.1, b.0)))
      (λ _. tt))

  reply_shown_lem : (r : ControlReply) → HeldAs (Shows said_reply (Msg.Reply r)) (held_reply r tx)
  unfolding held_reply shown shown_said
  reply_shown_lem (R.Created instance) =
      then_held_lem (Showing tx instance.start instance.len) (Shows said_reply (Msg.Reply (R.Created instance))) (name_held tx instance.start instance.len) _
      (name_shown tx _ _) (λ i e. rw e)
  reply_shown_lem (R.Finished fingerprint facts bytes complete) = refl
  reply_shown_lem R.Removed = refl

  two_shown : {A : Type 0} (P : A → Type 0) (x y : Span) (X Y : Held (List ℕ)) (make : List ℕ → List ℕ → A)
      → HeldAs (Showing tx x.start x.len) X → HeldAs (Showing tx y.start y.len) Y
      → ((a b : List ℕ) → Showing tx x.start x.len a → Showing tx y.start y.len b → P (make a b))
      → HeldAs P (then_held X (λ a. then_held Y (λ b. held (make a b))))
  two_shown P x y X Y make h k f =
      then_held_lem (Showing tx x.start x.len) P X _ h (λ a i. then_held_lem (Showing tx y.start y.len) P Y _ k (λ b j. f a b i j))

  -- a message made of what is held
  says : {A : Type 0} (to : A → Said) (message : Message) (x : Held A) → HeldAs (Shows to message) x
      → HeldAs (Shows (λ m. m) message) (held_as to x)
  says to message x h = then_held_lem (Shows to message) (Shows (λ m. m) message) x (λ a. held (to a)) h (λ a e. e)

  said_shown : (limit : ℕ) (message : Message) → HeldAs (Shows (λ m. m) message) (held_said limit message tx rs nd)
  unfolding held_said held_error held_ids held_control held_page shown shown_said
  said_shown limit (Msg.Startup version database mode fingerprint count) =
      says said_startup (Msg.Startup version database mode fingerprint count) (held_startup version database mode fingerprint count tx rs)
      (startup_shown version database mode fingerprint count)
  said_shown limit (Msg.Ready version fingerprint predicates) = refl
  said_shown limit (Msg.Error code reason) =
      says said_error (Msg.Error code reason) (held_error code reason tx)
      (then_held_lem (Showing tx reason.start reason.len) (Shows said_error (Msg.Error code reason)) (text_held tx reason.start reason.len) _
      (text_shown tx _ _) (λ x e. rw e))
  said_shown limit (Msg.Complete first second) = refl
  said_shown limit (Msg.Ids count) =
      says said_ids (Msg.Ids count) (held_ids count rs)
      (pick_both (HeldAs (Shows said_ids (Msg.Ids count))) (ltb (length rs) (count * id_width)) tt
      (held_weaker (Showed id_columns id_said tx rs count 0) (Shows said_ids (Msg.Ids count)) (held_times (held_id rs) id_width count 0) (ids_shown count)
      (λ l b. rw (b.1, b.0))))
  said_shown limit (Msg.Types count) = says said_types (Msg.Types count) (held_types limit count tx rs nd) (types_shown limit tx rs nd count)
  said_shown limit (Msg.Control op database allow schema) =
      says said_control (Msg.Control op database allow schema) (held_control op database allow schema tx)
      (two_shown (Shows said_control (Msg.Control op database allow schema)) database schema (name_held tx database.start database.len)
      (text_held tx schema.start schema.len) (λ d x. record { op = op; database = d; allow_zero_facts = allow; schema = x }) (name_shown tx _ _)
      (text_shown tx _ _) (λ d x a b. rw (a, b)))
  said_shown limit (Msg.Reply reply) = says said_reply (Msg.Reply reply) (held_reply reply tx) (reply_shown_lem reply)
  said_shown limit (Msg.Profile count) = says said_profile (Msg.Profile count) (held_profile count tx rs) (profile_shown count)
  said_shown limit (Msg.Page limit₁ cursor query) =
      says said_page (Msg.Page limit₁ cursor query) (held_page limit₁ cursor query tx)
      (two_shown (Shows said_page (Msg.Page limit₁ cursor query)) cursor query (raw_held tx cursor.start cursor.len)
      (text_held tx query.start query.len) (λ c x. record { limit = limit₁; cursor = c; query = x }) (raw_shown tx _ _) (text_shown tx _ _)
      (λ c x a b. rw (a, b)))
  said_shown limit (Msg.Fetch digest count) = says said_fetch (Msg.Fetch digest count) (held_fetch digest count rs) (fetch_shown digest count)
  said_shown limit (Msg.ListingDigest predicate digest) = refl
  said_shown limit (Msg.Opaque payload) =
      says opaque (Msg.Opaque payload) (raw_held tx payload.start payload.len)
      (held_weaker (Showing tx payload.start payload.len) (Shows opaque (Msg.Opaque payload)) (raw_held tx payload.start payload.len)
      (raw_shown tx _ _) (λ x e. rw e))

-- so, whichever message it is
pub held_shown : (limit : ℕ) (message : Message) (tx rs nd : List ℕ) (m : Said) → held_said limit message tx rs nd ≡ held m
    → shown message tx rs nd ≡ shown_said m
held_shown limit message tx rs nd m e = rw e at (said_shown tx rs nd limit message)
