-- Of a message that the memory holds the writer stores the bytes.
use mathlib.Core.Bool.{Bool, true, false}
use mathlib.Core.Path.{◌≡◌, refl, sym}
use mathlib.Core.List.{List, [], ◌∷◌, ◌++◌}
use Prim.Native.Nat.{ℕ, ◌+◌, ◌*◌, ◌≤◌}
use lib.Dec.{ltb}
use lib.ListN.{length}
use lib.Seq.{sets}
use borrow.Author.Tests.{ltb-false}
use Rattle.varint.specs.Choice.{pick}
use Rattle.varint.specs.Formats.{varint, print_text}
use Rattle.varint.specs.Gathering.{Held, held, lacks, then_held, text_held, name_held}
use Rattle.varint.specs.Leb128.{put_u64}
use Rattle.varint.specs.Outs.{declared}
use Rattle.varint.specs.Stores.{part}
use Rattle.varint.specs.declared.error.Refusal.{Refusal}
use Rattle.varint.proofs.StoreLaws.{length_part}
use Rattle.desc.specs.Emitting.{Pen, put_bytes, put_number, put_name}
use Rattle.desc.proofs.EmitPrint.{NameIs, name_is}
use Rattle.protocol.specs.Codes.{mode_byte, error_byte, op_byte}
use Rattle.protocol.specs.Control.{Control, control, held_control}
use Rattle.protocol.specs.Encoding.{held_said, held_as}
use Rattle.protocol.specs.Error.{Error, error, held_error}
use Rattle.protocol.specs.Fetch.{Fetch, print_digest, pair, fetch, max_fetch, held_fetch}
use Rattle.protocol.specs.Ids.{ids, held_id, held_ids}
use Rattle.protocol.specs.Page.{Page, page, raw_held, held_page}
use Rattle.protocol.specs.Profile.{Step, step, step_numbers, held_step, held_profile}
use Rattle.protocol.specs.Reply.{Reply, created, finished, removed, print_reply, held_reply}
use Rattle.protocol.specs.RowsHeld.{all_good, held_times}
use Rattle.protocol.specs.Said.{Said, said_startup, said_error, said_ids, said_types, said_control, said_reply, said_profile, said_page, said_fetch, opaque, print_said}
use Rattle.protocol.specs.Startup.{Startup, Claim, claim, startup, held_claim, held_startup}
use Rattle.protocol.specs.Types.{Predicate, predicate, type_numbers, types_laid, held_predicate, held_types}
use Rattle.protocol.specs.declared.message.ControlOp.{ControlOp}
use Rattle.protocol.specs.declared.message.ControlOp.TheVariants.{Create, Finish, Remove}
use Rattle.protocol.specs.declared.message.ControlReply.{ControlReply}
use Rattle.protocol.specs.declared.message.ControlReply.TheVariants as R
use Rattle.protocol.specs.declared.message.ErrorCode.{ErrorCode}
use Rattle.protocol.specs.declared.message.Message.{Message}
use Rattle.protocol.specs.declared.message.Message.TheVariants as Msg
use Rattle.protocol.specs.declared.message.Mode.{Mode}
use Rattle.protocol.specs.declared.message.RowKind.TheVariants as K
use Rattle.varint.specs.declared.text.Span.{Span}
use Rattle.protocol_write.specs.Inner.Writing.{put_two, put_counted, put_tagged, put_startup, put_control, put_finished, put_reply, put_page, put_digest, put_head, put_body, put_message}
use Rattle.protocol_write.proofs.Printing.{took, held_same, Prints, prints_then, prints_number, prints_two, prints_byte, prints_flag, prints_fixed, fixed_same, prints_text}
use Rattle.protocol_write.proofs.RowPrints.{claim_prints, step_prints, id_prints, pair_prints, type_prints, counted_prints}
use Rattle.varint.proofs.Basics.{never}
use Rattle.std.specs.Prelude.{Some, None, Option}

-- what is held has passed the test before it
past_lack : {A : Type 0} (t : Bool) (x : Refusal) (h : Held A) (a : A) → pick t (lacks x) h ≡ held a → (t ≡ false) × (h ≡ held a)
past_lack true x h a e = never cc
past_lack false x h a e = (refl, e)

past_good : {A : Type 0} (t : Bool) (x : Refusal) (h : Held A) (a : A) → pick t h (lacks x) ≡ held a → h ≡ held a
past_good true x h a e = e
past_good false x h a e = never cc

-- a message by what it says
said_prints : {A : Type 0} (to : A → Said) (H : Held A) (w : Pen → Pen) (x : Said) → ((a : A) → H ≡ held a → Prints w (print_said (to a)))
    → held_as to H ≡ held x → Prints w (print_said x)
said_prints to H w x prints e =
    let a = took H (λ v. held (to v)) x e in
    let q : to a.value ≡ x = held_same a.rest in
    rw (← q) (prints a.value a.is)

tagged_prints : (b : ℕ) (span : Span) (tx x : List ℕ) → name_held tx span.start span.len ≡ held x → Prints (put_tagged b span tx) ((b ∷ []) ++ print_text x)
unfolding put_tagged
tagged_prints b span tx x e = prints_then (prints_byte b) (prints_text tx span.start span.len x e)

-- bytes of any kind
raw_is : (tx : List ℕ) (start len : ℕ) (x : List ℕ) → raw_held tx start len ≡ held x → (len ≡ length x) × Prints (put_name tx (start, len)) x
unfolding raw_held put_name put_bytes
raw_is tx start len x e =
    let h = past_lack (ltb (length tx) (start + len)) _ (held (part tx start len)) x e in
    let fits : start + len ≤ length tx = ltb-false (length tx) (start + len) h.0 in
    let q : part tx start len ≡ x = held_same h.1 in
    let l : len ≡ length (part tx start len) = sym (length_part tx start len fits) in
    rw (← q) (l, record { stores = λ s r i. record { out = sets s.out s.place (part tx start len); place = declared (s.place + l i) } })

name_prints : (tx : List ℕ) (start len : ℕ) (x : List ℕ) → name_held tx start len ≡ held x → Prints (put_name tx (start, len)) x
name_prints tx start len x e = let n : NameIs tx start len (held x) = rw e at (name_is tx start len) in record { stores = λ s h. n.1 s }

error_prints : (code : ErrorCode) (span : Span) (tx : List ℕ) (m : Error) → held_error code span tx ≡ held m
    → Prints (put_tagged (error_byte code) span tx) (error.print m)
unfolding held_error name_held
error_prints code span tx m e =
    let a = took (text_held tx span.start span.len) (λ x. held (record { code = code; text = x })) m e in
    let q : record { code = code; text = a.value } ≡ m = held_same a.rest in
    rw (← q) (tagged_prints (error_byte code) span tx a.value a.is)

control_prints : (op : ControlOp) (database : Span) (allow : Bool) (schema : Span) (tx : List ℕ) (m : Control) → held_control op database allow schema tx ≡ held m
    → Prints (put_control op database allow schema tx) (control.print m)
unfolding held_control put_control put_tagged name_held
control_prints op database allow schema tx m e =
    let a =
    took (name_held tx database.start database.len)
    (λ d. then_held (text_held tx schema.start schema.len) (λ x. held (record { op = op; database = d; allow_zero_facts = allow; schema = x }))) m e
    in
    let b =
    took (text_held tx schema.start schema.len) (λ x. held (record { op = op; database = a.value; allow_zero_facts = allow; schema = x })) m a.rest
    in
    let q : record { op = op; database = a.value; allow_zero_facts = allow; schema = b.value } ≡ m = held_same b.rest in
    rw (← q)
    (prints_then (prints_byte (op_byte op))
    (prints_then (prints_text tx database.start database.len a.value a.is)
    (prints_then (prints_flag allow) (prints_text tx schema.start schema.len b.value b.is))))

reply_prints : (reply : ControlReply) (tx : List ℕ) (m : Reply) → held_reply reply tx ≡ held m → Prints (put_reply reply tx) (print_reply m)
unfolding held_reply put_reply put_finished put_two
reply_prints (R.Created span) tx m e =
    let a = took (name_held tx span.start span.len) (λ i. held (created i)) m e in
    let q : created a.value ≡ m = held_same a.rest in
    rw (← q) (tagged_prints (op_byte Create) span tx a.value a.is)
reply_prints (R.Finished fingerprint facts bytes complete) tx m e =
    let q : finished (record { fingerprint = fingerprint; facts = facts; bytes = bytes; already_complete = complete }) ≡ m = held_same e in
    rw (← q)
    (prints_then (prints_byte (op_byte Finish))
    (prints_then (prints_number fingerprint)
    (prints_then (prints_number facts) (prints_then (prints_number bytes) (prints_flag complete)))))
reply_prints R.Removed tx m e = let q : removed ≡ m = held_same e in rw (← q) (prints_byte (op_byte Remove))

page_prints : (most : ℕ) (cursor query : Span) (tx : List ℕ) (m : Page) → held_page most cursor query tx ≡ held m
    → Prints (put_page most cursor query tx) (page.print m)
unfolding held_page put_page name_held
page_prints most cursor query tx m e =
    let a =
    took (raw_held tx cursor.start cursor.len)
    (λ c. then_held (text_held tx query.start query.len) (λ x. held (record { limit = most; cursor = c; query = x }))) m e
    in
    let b = took (text_held tx query.start query.len) (λ x. held (record { limit = most; cursor = a.value; query = x })) m a.rest in
    let q : record { limit = most; cursor = a.value; query = b.value } ≡ m = held_same b.rest in
    let c = raw_is tx cursor.start cursor.len a.value a.is in
    rw (← q)
    (prints_then (prints_fixed 8 most)
    (prints_then
    (prints_then
    (fixed_same 4 c.0)
    c.1)
    (name_prints tx query.start query.len b.value b.is)))

digest_prints : (d : Option ℕ) → Prints (put_digest d) (print_digest d)
unfolding put_digest
digest_prints None = prints_byte 0
digest_prints (Some d) = prints_then (prints_byte 1) (prints_number d)

three_prints : (u v w : ℕ) → Prints (λ s. put_number w (put_two u v s)) (put_u64 u ++ (put_u64 v ++ put_u64 w))
unfolding put_two
three_prints u v w = prints_then (prints_number u) (prints_then (prints_number v) (prints_number w))

module _ (limit : ℕ) (tx rs nd : List ℕ) where
  startup_prints : (version : ℕ) (database : Span) (mode : Mode) (fingerprint count : ℕ) (m : Startup)
      → held_startup version database mode fingerprint count tx rs ≡ held m
      → Prints (λ s. put_counted K.Claim limit tx rs nd count (put_startup version database mode fingerprint tx s)) (startup.print m)
  unfolding held_startup put_startup
  startup_prints version database mode fingerprint count m e =
      let N = name_held tx database.start database.len in
      let L : Held (List Claim) = held_times (held_claim tx rs) 3 count 0 in
      let h =
      past_lack (ltb (length rs) (count * 3)) _
      (then_held N (λ d. then_held L (λ l. held (record { version = version; database = d; mode = mode; fingerprint = fingerprint; claims = l })))) m e
      in
      let a = took N (λ d. then_held L (λ l. held (record { version = version; database = d; mode = mode; fingerprint = fingerprint; claims = l }))) m h.1 in
      let b = took L (λ l. held (record { version = version; database = a.value; mode = mode; fingerprint = fingerprint; claims = l })) m a.rest in
      let q : record { version = version; database = a.value; mode = mode; fingerprint = fingerprint; claims = b.value } ≡ m = held_same b.rest in
      rw (← q)
      (prints_then (prints_number version)
      (prints_then (prints_text tx database.start database.len a.value a.is)
      (prints_then (prints_byte (mode_byte mode))
      (prints_then (prints_number fingerprint)
      (counted_prints claim (held_claim tx rs) K.Claim limit tx rs nd (claim_prints limit tx rs nd) count b.value b.is)))))

  ids_prints : (count : ℕ) (m : List ℕ) → held_ids count rs ≡ held m → Prints (put_counted K.Id limit tx rs nd count) (ids.print m)
  unfolding held_ids
  ids_prints count m e =
      let h = past_lack (ltb (length rs) (count * 1)) _ (held_times (held_id rs) 1 count 0) m e in
      counted_prints varint (held_id rs) K.Id limit tx rs nd (id_prints limit tx rs nd) count m h.1

  profile_prints : (count : ℕ) (m : List Step) → held_profile count tx rs ≡ held m
      → Prints (put_counted K.Step limit tx rs nd count) (print_said (said_profile m))
  unfolding held_profile print_said
  profile_prints count m e =
      let L : Held (List Step) = held_times (held_step tx rs) 4 count 0 in
      let good = all_good (step_numbers rs) 4 count 0 in
      let h = past_lack (ltb (length rs) (count * 4)) _ (pick good L (lacks _)) m e in
      counted_prints step (held_step tx rs) K.Step limit tx rs nd (step_prints limit tx rs nd) count m (past_good good _ L m h.1)

  types_prints : (count : ℕ) (m : List Predicate) → held_types limit count tx rs nd ≡ held m
      → Prints (put_counted K.Predicate limit tx rs nd count) (print_said (said_types m))
  unfolding held_types print_said
  types_prints count m e =
      let L : Held (List Predicate) = held_times (held_predicate limit tx rs nd) 6 count 0 in
      let good = all_good (type_numbers rs) 6 count 0 in
      let N = types_laid limit rs nd count 0 0 in
      let h = past_lack (ltb (length rs) (count * 6)) _ (pick good (then_held N (λ _. L)) (lacks _)) m e in
      let a = took N (λ _. L) m (past_good good _ (then_held N (λ _. L)) m h.1) in
      counted_prints (predicate 0) (held_predicate limit tx rs nd) K.Predicate limit tx rs nd (type_prints limit tx rs nd) count m a.rest

  fetch_prints : (digest : Option ℕ) (count : ℕ) (m : Fetch) → held_fetch digest count rs ≡ held m
      → Prints (λ s. put_counted K.Pair limit tx rs nd count (put_digest digest s)) (fetch.print m)
  unfolding held_fetch
  fetch_prints digest count m e =
      let L : Held (List ℕ) = held_times (held_id rs) 1 count 0 in
      let F : Held Fetch = then_held L (λ l. held (record { digest = digest; ids = l })) in
      let h = past_lack (ltb (length rs) (count * 1)) _ (pick (ltb max_fetch count) (lacks _) F) m e in
      let g = past_lack (ltb max_fetch count) _ F m h.1 in
      let a = took L (λ l. held (record { digest = digest; ids = l })) m g.1 in
      let q : record { digest = digest; ids = a.value } ≡ m = held_same a.rest in
      rw (← q)
      (prints_then (digest_prints digest)
      (counted_prints pair (held_id rs) K.Pair limit tx rs nd (pair_prints limit tx rs nd) count a.value a.is))

  -- the whole message
  pub write_said : (m : Message) (x : Said) → held_said limit m tx rs nd ≡ held x → Prints (put_message limit m tx rs nd) (print_said x)
  unfolding held_said put_message put_head put_body print_said
  write_said (Msg.Startup version database mode fingerprint count) x e =
      said_prints said_startup (held_startup version database mode fingerprint count tx rs)
      (λ s. put_counted K.Claim limit tx rs nd count (put_startup version database mode fingerprint tx s))
      x
      (startup_prints version database mode fingerprint count)
      e
  write_said (Msg.Ready version fingerprint predicates) x e = rw (← held_same e) (three_prints version fingerprint predicates)
  write_said (Msg.Error code text) x e = said_prints said_error (held_error code text tx) (put_tagged (error_byte code) text tx) x (error_prints code text tx) e
  write_said (Msg.Complete first second) x e = rw (← held_same e) (prints_two first second)
  write_said (Msg.Ids count) x e = said_prints said_ids (held_ids count rs) (put_counted K.Id limit tx rs nd count) x (ids_prints count) e
  write_said (Msg.Types count) x e = said_prints said_types (held_types limit count tx rs nd) (put_counted K.Predicate limit tx rs nd count) x (types_prints count) e
  write_said (Msg.Control op database allow schema) x e =
      said_prints said_control (held_control op database allow schema tx) (put_control op database allow schema tx) x (control_prints op database allow schema tx) e
  write_said (Msg.Reply reply) x e = said_prints said_reply (held_reply reply tx) (put_reply reply tx) x (reply_prints reply tx) e
  write_said (Msg.Profile count) x e = said_prints said_profile (held_profile count tx rs) (put_counted K.Step limit tx rs nd count) x (profile_prints count) e
  write_said (Msg.Page most cursor query) x e = said_prints said_page (held_page most cursor query tx) (put_page most cursor query tx) x (page_prints most cursor query tx) e
  write_said (Msg.Fetch digest count) x e =
      said_prints said_fetch (held_fetch digest count rs) (λ s. put_counted K.Pair limit tx rs nd count (put_digest digest s)) x (fetch_prints digest count) e
  write_said (Msg.ListingDigest predicate digest) x e = rw (← held_same e) (prints_two predicate digest)
  write_said (Msg.Opaque payload) x e =
      said_prints opaque (raw_held tx payload.start payload.len) (put_name tx (payload.start, payload.len)) x
      (λ a h. (raw_is tx payload.start payload.len a h).1)
      e
