-- What lent memory holds can be printed and read back: of a message whose fields are of their types, in memory whose numbers are of 64 bits.
use mathlib.Core.Bool.{Bool, true, ◌&&◌}
use mathlib.Core.Path.{◌≡◌, refl, ap}
use mathlib.Core.List.{List, [], ◌∷◌, ◌++◌}
use Prim.Native.Nat.{ℕ, zero, suc, ◌+◌, ◌*◌, ◌≤◌}
use native.Mathlib.Omega.{arith}
use lib.Dec.{ltb, leb}
use lib.ListN.{length, get_or, length-append}
use borrow.Author.Tests.{ltb-false, leb-true}
use Rattle.varint.specs.Choice.{pick}
use Rattle.varint.specs.Fixed.{put_le}
use Rattle.varint.specs.Gathering.{Held, held, lacks, then_held, text_held, name_held}
use Rattle.varint.specs.RoundTrips.{TextOk, All, ListOk}
use Rattle.varint.proofs.Basics.{pick_both, pick_cases, both}
use Rattle.desc.specs.Encoding.{held_in}
use Rattle.desc.specs.Layout.{end_at}
use Rattle.desc.specs.Table.{cell, table}
use Rattle.desc.specs.Trees.{Tree}
use Rattle.desc.specs.WellFormed.{Fine}
use Rattle.desc.proofs.GatherFine.{HeldAs, then_held_lem, name_held_lem, tree_held}
use Rattle.protocol.specs.Control.{Control, held_control}
use Rattle.protocol.specs.Encoding.{held_as, held_said}
use Rattle.protocol.specs.Error.{held_error}
use Rattle.protocol.specs.Fetch.{Fetch, max_fetch, held_fetch}
use Rattle.protocol.specs.Fields.{narrow, yes, Optional, absent, present}
use Rattle.protocol.specs.Ids.{id_width, held_id, held_ids}
use Rattle.protocol.specs.Page.{Page, raw_held, held_page}
use Rattle.protocol.specs.Profile.{Step, step_width, step_numbers, held_step, held_profile}
use Rattle.protocol.specs.Reply.{held_reply}
use Rattle.protocol.specs.RowsHeld.{held_times, all_good}
use Rattle.protocol.specs.Said.{Said, said_startup, said_error, said_ids, said_types, said_control, said_reply, said_profile, said_page, said_fetch, opaque, print_said}
use Rattle.protocol.specs.Startup.{Startup, claim_width, held_claim, held_startup}
use Rattle.protocol.specs.Types.{Predicate, type_width, type_numbers, types_laid, held_predicate, held_types}
use Rattle.protocol.specs.declared.message.ControlOp.{ControlOp}
use Rattle.protocol.specs.declared.message.ErrorCode.{ErrorCode}
use Rattle.protocol.specs.declared.message.ControlReply.{ControlReply}
use Rattle.protocol.specs.declared.message.ControlReply.TheVariants as R
use Rattle.protocol.specs.declared.message.Mode.{Mode}
use Rattle.varint.specs.declared.text.Span.{Span}
use Rattle.protocol.specs.declared.message.Message.{Message}
use Rattle.protocol.specs.declared.message.Message.TheVariants as Msg
use Rattle.protocol_laws.specs.Fine.{Wide, Narrow, IfPresent, FineClaim, FinePredicate, FineStep, FineReply, FineSaid, TypedReply, Typed, Numbers}
use Rattle.std.specs.Prelude.{Option}
use Rattle.varint.specs.Texts.{span}

-- nothing is asked of what is held
pub any_held : {A : Type 0} (x : Held A) → HeldAs (λ _. Unit {0}) x
any_held (held a) = tt
any_held (lacks e) = tt

text_held_lem : (tx : List ℕ) (start len : ℕ) → Wide (length tx) → HeldAs TextOk (text_held tx start len)
unfolding name_held
text_held_lem = name_held_lem

-- Rows

-- What holds of rows one after the other: P of what each row holds, by the number r that it starts at, and so Q of n rows from there on.
module _ {A : Type 0} (P : ℕ → A → Type 0) (Q : ℕ → ℕ → List A → Type 0) (row : ℕ → Held A) (width : ℕ) (none : (r : ℕ) → Q 0 r [])
    (more : (n r : ℕ) (a : A) (l : List A) → P r a → Q n (r + width) l → Q (suc n) r (a ∷ l))
  where
    -- n rows that are good are n things
    pub times_held : (good : ℕ → Bool) → ((r : ℕ) → good r ≡ true → HeldAs (P r) (row r))
        → (n r : ℕ) → all_good good width n r ≡ true → HeldAs (Q n r) (held_times row width n r)
    unfolding held_times all_good
    times_held good h zero r g = none r
    times_held good h (suc n) r g =
        let b = both (good r) (all_good good width n (r + width)) g in
        then_held_lem (P r) (Q (suc n) r) (row r) _ (h r b.0)
        (λ a x.
        then_held_lem (Q n (r + width)) (Q (suc n) r) (held_times row width n (r + width)) _ (times_held good h n (r + width) b.1)
        (λ l y. more n r a l x y))

    -- so where no row is tested
    pub rows_held : ((r : ℕ) → HeldAs (P r) (row r)) → (n : ℕ) → HeldAs (Q n 0) (held_times row width n 0)
    unfolding all_good
    rows_held h n = times_held (λ _. true) (λ r _. h r) n 0 (all n 0)
      where
        all : (n r : ℕ) → all_good (λ _. true) width n r ≡ true
        all zero r = refl
        all (suc n) r = all n (r + width)

abbrev Rows : {A : Type 0} → (A → Type 0) → ℕ → List A → Type 0
Rows P n l = (length l ≡ n) × All P l

one_more : {A : Type 0} (P : A → Type 0) (n r : ℕ) (a : A) (l : List A) → P a → Rows P n l → Rows P (suc n) (a ∷ l)
one_more P n r a l x y = (ap suc y.0, (x, y.1))

all_held : {A : Type 0} (P : A → Type 0) (row : ℕ → Held A) (width : ℕ) → ((r : ℕ) → HeldAs P (row r)) → (n : ℕ)
    → HeldAs (Rows P n) (held_times row width n 0)
all_held P row width = rows_held (λ _. P) (λ n _. Rows P n) row width (λ _. (refl, tt)) (one_more P)

-- they are a list that can be printed, where their count can
listed : {A : Type 0} (P : A → Type 0) {n : ℕ} (l : List A) → Wide n → Rows P n l → ListOk P l
listed P l w h = (rw h.0 w, h.1)

-- the value of a predicate
abbrev pub value_in : ℕ → List ℕ → List ℕ → ℕ → ℕ → Held (Optional (Tree (List ℕ)))
value_in limit tx nd n m = pick (yes n) (then_held (held_in (table limit nd m 0) tx) (λ v. held (present v))) (held absent)

-- Fine if it is short: a page's cursor has its length in 32 bits, and is no longer than the page.
abbrev pub Short : ℕ → Said → Type 0
Short limit m = Narrow (length (print_said m)) → FineSaid limit m

-- a message made of what is held
said : {A : Type 0} {P : A → Type 0} (limit : ℕ) (to : A → Said) (x : Held A) → HeldAs P x → ((a : A) → P a → Short limit (to a))
    → HeldAs (Short limit) (held_as to x)
said {P = P} limit to x h k = then_held_lem P (Short limit) x (λ a. held (to a)) h k

cursor_short : (a b c x : List ℕ) → length c ≤ length (a ++ ((b ++ c) ++ x))
cursor_short a b c x = simp length-append (omega arith)

module _ (tx rs nd : List ℕ) (T : Wide (length tx)) (D : Wide (length nd)) (N : Numbers rs) where
  claim_held : (r : ℕ) → HeldAs FineClaim (held_claim tx rs r)
  unfolding held_claim
  claim_held r = then_held_lem TextOk FineClaim (name_held tx (get_or rs r 0) (get_or rs (r + 1) 0)) _ (name_held_lem tx _ _ T) (λ x h. (h, N (r + 2)))

  step_held : (r : ℕ) → HeldAs FineStep (held_step tx rs r)
  unfolding held_step
  step_held r = then_held_lem TextOk FineStep (name_held tx (get_or rs r 0) (get_or rs (r + 1) 0)) _ (name_held_lem tx _ _ T) (λ x h. (h, N (r + 2)))

  value_held : (limit n m : ℕ) → HeldAs (IfPresent (Fine TextOk limit)) (value_in limit tx nd n m)
  value_held limit n m =
      pick_both (HeldAs (IfPresent (Fine TextOk limit))) (yes n)
      (then_held_lem (Fine TextOk limit) (IfPresent (Fine TextOk limit)) (held_in (table limit nd m 0) tx) _ (tree_held limit tx nd m T D) (λ v h. h)) tt

  predicate_held : (limit r : ℕ) → type_numbers rs r ≡ true → HeldAs (FinePredicate limit) (held_predicate limit tx rs nd r)
  unfolding held_predicate type_numbers
  predicate_held limit r g =
      let k : ℕ = get_or rs (r + 5) 0 in
      let f = both (narrow (get_or rs r 0) && leb (get_or rs (r + 3) 0) 1) (leb (get_or rs (r + 4) 0) 1) g in
      let i = leb-true (get_or rs r 0) 0xFFFFFFFF (both (narrow (get_or rs r 0)) (leb (get_or rs (r + 3) 0) 1) f.0).0 in
      then_held_lem TextOk (FinePredicate limit) (name_held tx (get_or rs (r + 1) 0) (get_or rs (r + 2) 0)) _ (name_held_lem tx _ _ T)
      (λ x a.
      then_held_lem (Fine TextOk limit) (FinePredicate limit) (held_in (table limit nd k 0) tx) _ (tree_held limit tx nd k T D)
      (λ t b.
      then_held_lem (IfPresent (Fine TextOk limit)) (FinePredicate limit) (value_in limit tx nd (get_or rs (r + 4) 0) (cell nd k end_at)) _
      (value_held limit (get_or rs (r + 4) 0) (cell nd k end_at))
      (λ v c. (omega arith, a, b, c))))

  -- Messages

  startup_held : (version : ℕ) (database : Span) (mode : Mode) (fingerprint count : ℕ) → Typed (Msg.Startup version database mode fingerprint count)
      → HeldAs (λ m. FineSaid 0 (said_startup m)) (held_startup version database mode fingerprint count tx rs)
  unfolding held_startup FineSaid Typed
  startup_held version database mode fingerprint count t =
      let P : Startup → Type 0 = λ m. FineSaid 0 (said_startup m) in
      pick_both (HeldAs P) (ltb (length rs) (count * claim_width)) tt
      (then_held_lem TextOk P (name_held tx database.start database.len) _ (name_held_lem tx _ _ T)
      (λ d a.
      then_held_lem (Rows FineClaim count) P (held_times (held_claim tx rs) claim_width count 0) _ (all_held FineClaim (held_claim tx rs) claim_width claim_held count)
      (λ l b. (t.0, a, t.1, listed FineClaim l t.2 b))))

  error_held : (code : ErrorCode) (text : Span) → HeldAs (λ m. FineSaid 0 (said_error m)) (held_error code text tx)
  unfolding held_error FineSaid
  error_held code text = then_held_lem TextOk (λ m. FineSaid 0 (said_error m)) (text_held tx text.start text.len) _ (text_held_lem tx _ _ T) (λ x a. a)

  ids_held : (count : ℕ) → HeldAs (Rows Wide count) (held_ids count rs)
  unfolding held_ids
  ids_held count = pick_both (HeldAs (Rows Wide count)) (ltb (length rs) (count * id_width)) tt (all_held Wide (held_id rs) id_width N count)

  types_held : (limit count : ℕ) → HeldAs (Rows (FinePredicate limit) count) (held_types limit count tx rs nd)
  unfolding held_types
  types_held limit count =
      let P : List Predicate → Type 0 = Rows (FinePredicate limit) count in
      pick_both (HeldAs P) (ltb (length rs) (count * type_width)) tt
      (pick_cases (HeldAs P) (all_good (type_numbers rs) type_width count 0)
      (λ g.
      then_held_lem (λ _. Unit) P (types_laid limit rs nd count 0 0) _ (any_held (types_laid limit rs nd count 0 0))
      (λ _ _.
      times_held (λ _. FinePredicate limit) (λ n _. Rows (FinePredicate limit) n) (held_predicate limit tx rs nd) type_width (λ _. (refl, tt))
      (one_more (FinePredicate limit)) (type_numbers rs) (predicate_held limit) count 0 g))
      (λ _. tt))

  control_held : (op : ControlOp) (database : Span) (allow : Bool) (schema : Span)
      → HeldAs (λ m. FineSaid 0 (said_control m)) (held_control op database allow schema tx)
  unfolding held_control FineSaid
  control_held op database allow schema =
      let P : Control → Type 0 = λ m. FineSaid 0 (said_control m) in
      then_held_lem TextOk P (name_held tx database.start database.len) _ (name_held_lem tx _ _ T)
      (λ d a. then_held_lem TextOk P (text_held tx schema.start schema.len) _ (text_held_lem tx _ _ T) (λ x b. (a, b)))

  reply_held : (r : ControlReply) → TypedReply r → HeldAs FineReply (held_reply r tx)
  unfolding held_reply
  reply_held (R.Created span) t = then_held_lem TextOk FineReply (name_held tx span.start span.len) _ (name_held_lem tx _ _ T) (λ i h. h)
  reply_held (R.Finished fingerprint facts bytes complete) t = t
  reply_held R.Removed t = tt

  profile_held : (count : ℕ) → HeldAs (Rows FineStep count) (held_profile count tx rs)
  unfolding held_profile
  profile_held count =
      let P : List Step → Type 0 = Rows FineStep count in
      pick_both (HeldAs P) (ltb (length rs) (count * step_width)) tt
      (pick_both (HeldAs P) (all_good (step_numbers rs) step_width count 0) (all_held FineStep (held_step tx rs) step_width step_held count) tt)

  page_held : (limit : ℕ) (cursor query : Span) → Wide limit → HeldAs (λ m. Short 0 (said_page m)) (held_page limit cursor query tx)
  unfolding held_page FineSaid print_said
  page_held limit cursor query t =
      let P : Page → Type 0 = λ m. Short 0 (said_page m) in
      then_held_lem (λ _. Unit) P (raw_held tx cursor.start cursor.len) _ (any_held (raw_held tx cursor.start cursor.len))
      (λ c _.
      then_held_lem TextOk P (text_held tx query.start query.len) _ (text_held_lem tx _ _ T)
      (λ x a n. (t, omega (arith, cursor_short (put_le 8 limit) (put_le 4 (length c)) c x), a)))

  fetch_held : (digest : Option ℕ) (count : ℕ) → Typed (Msg.Fetch digest count) → HeldAs (λ m. FineSaid 0 (said_fetch m)) (held_fetch digest count rs)
  unfolding held_fetch FineSaid Typed
  fetch_held digest count t =
      let P : Fetch → Type 0 = λ m. FineSaid 0 (said_fetch m) in
      pick_both (HeldAs P) (ltb (length rs) (count * id_width)) tt
      (pick_cases (HeldAs P) (ltb max_fetch count) (λ _. tt)
      (λ e.
      then_held_lem (Rows Wide count) P (held_times (held_id rs) id_width count 0) _ (all_held Wide (held_id rs) id_width N count)
      (λ l b. (t.0, listed Wide l t.1 b, rw b.0 (ltb-false max_fetch count e)))))

  -- what is held of a message is fine
  said_held : (limit : ℕ) (msg : Message) → Typed msg → HeldAs (Short limit) (held_said limit msg tx rs nd)
  unfolding held_said Typed FineSaid
  said_held limit (Msg.Startup version database mode fingerprint count) t =
      said limit said_startup (held_startup version database mode fingerprint count tx rs) (startup_held version database mode fingerprint count t) (λ m h _. h)
  said_held limit (Msg.Ready version fingerprint predicates) t = λ _. t
  said_held limit (Msg.Error code text) t = said limit said_error (held_error code text tx) (error_held code text) (λ m h _. h)
  said_held limit (Msg.Complete first second) t = λ _. t
  said_held limit (Msg.Ids count) t = said limit said_ids (held_ids count rs) (ids_held count) (λ l h _. listed Wide l t h)
  said_held limit (Msg.Types count) t = said limit said_types (held_types limit count tx rs nd) (types_held limit count) (λ l h _. listed (FinePredicate limit) l t h)
  said_held limit (Msg.Control op database allow schema) t =
      said limit said_control (held_control op database allow schema tx) (control_held op database allow schema) (λ m h _. h)
  said_held limit (Msg.Reply reply) t = said limit said_reply (held_reply reply tx) (reply_held reply t) (λ m h _. h)
  said_held limit (Msg.Profile count) t = said limit said_profile (held_profile count tx rs) (profile_held count) (λ l h _. listed FineStep l t h)
  said_held limit (Msg.Page limit₁ cursor query) t = said limit said_page (held_page limit₁ cursor query tx) (page_held limit₁ cursor query t) (λ m h. h)
  said_held limit (Msg.Fetch digest count) t = said limit said_fetch (held_fetch digest count rs) (fetch_held digest count t) (λ m h _. h)
  said_held limit (Msg.ListingDigest predicate digest) t = λ _. t
  said_held limit (Msg.Opaque payload) t =
      said limit opaque (raw_held tx payload.start payload.len) (any_held (raw_held tx payload.start payload.len)) (λ m h _. tt)

-- so, whichever message it is
pub held_fine : (limit : ℕ) (msg : Message) (tx rs nd : List ℕ) (m : Said) → Typed msg → Wide (length tx) → Wide (length nd) → Numbers rs
    → held_said limit msg tx rs nd ≡ held m → Short limit m
held_fine limit msg tx rs nd m t T D N e = rw e at (said_held tx rs nd T D N limit msg t)
