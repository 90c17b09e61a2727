-- What a message is, field by field.
use mathlib.Core.Bool.{Bool, true, false}
use mathlib.Core.Path.{◌≡◌, refl}
use mathlib.Core.List.{List}
use Prim.Native.Nat.{ℕ, ◌+◌, ◌-◌, ◌≤◌}
use native.Mathlib.Omega.{arith}
use borrow.Author.Tests.{le-ltb}
use lib.Dec.{ltb}
use lib.ListN.{length, drop}
use Rattle.varint.specs.Choice.{pick}
use Rattle.varint.specs.Fixed.{get_le}
use Rattle.varint.specs.Got.{Got, then}
use Rattle.varint.specs.Formats.{varint, name, text, read_times}
use Rattle.varint.specs.Inner.Again.{Accepted}
use Rattle.varint.specs.Leb128.{get_u64}
use Rattle.varint.specs.Stores.{part}
use Rattle.varint.specs.Utf8.{utf8}
use Rattle.varint.specs.declared.error.Mismatch.TheVariants as M
use Rattle.varint.specs.declared.error.Refusal.TheVariants.{TrailingBytes, BadString}
use Rattle.varint.proofs.FixedLaws.{get_le_ends}
use Rattle.protocol.specs.Control.{control}
use Rattle.protocol.specs.Error.{read_error}
use Rattle.protocol.specs.Fetch.{digest, pair, fetch}
use Rattle.protocol.specs.Fields.{error_code, control_op, flag, mode}
use Rattle.protocol.specs.Ids.{read_ids}
use Rattle.protocol.specs.Inner.Loading.{laid_as, lay_finished}
use Rattle.protocol.specs.Page.{read_page}
use Rattle.protocol.specs.Profile.{Step, step, profile}
use Rattle.protocol.specs.Reply.{Finished, created, finished, finish, reply_on, read_reply, lay_reply}
use Rattle.protocol.specs.Startup.{Claim, claim, startup}
use Rattle.protocol.specs.Types.{Predicate, predicate, read_types}
use Rattle.protocol.specs.Wholes.{ended}
use Rattle.protocol.specs.declared.message.ControlOp.{ControlOp}
use Rattle.protocol.specs.declared.message.ControlOp.TheVariants.{Create, Finish}
use Rattle.protocol.specs.declared.message.ErrorCode.{ErrorCode}
use Rattle.protocol.specs.declared.message.Mode.{Mode}
use Rattle.std.specs.Prelude.{Ok, Err, Option}

module _ (s : List ℕ) where
  pub error_read : {code : ErrorCode} {p q : ℕ} {x : List ℕ} → error_code.read s 0 ≡ Ok (code, p) → text.read s p ≡ Ok (x, q)
      → read_error s ≡ Ok ((record { code = code; text = x }), q)
  unfolding read_error
  error_read h k = rw (h, k)

  pub control_read : {op : ControlOp} {p q r e : ℕ} {allow : Bool} {d x : List ℕ} → control_op.read s 0 ≡ Ok (op, p) → name.read s p ≡ Ok (d, q)
      → (flag M.ControlFlag).read s q ≡ Ok (allow, r) → text.read s r ≡ Ok (x, e)
      → control.read s 0 ≡ Ok ((record { op = op; database = d; allow_zero_facts = allow; schema = x }), e)
  control_read h i j k = rw (h, i, j, k)

  pub reply_on_lem : {o : ControlOp} {p : ℕ} → control_op.read s 0 ≡ Ok (o, p) → read_reply s ≡ ended s (reply_on o s p)
  unfolding read_reply
  reply_on_lem h = rw h

  pub created_read : (at : ℕ) {q : ℕ} {x : List ℕ} → name.read s at ≡ Ok (x, q) → reply_on Create s at ≡ Ok (created x, q)
  created_read at h = rw h

  pub finished_same : (at : ℕ) → laid_as lay_reply (ended s (reply_on Finish s at)) ≡ laid_as lay_finished (ended s (finish.read s at))
  finished_same at = go (finish.read s at)
    where
      on : (b : Bool) (f : Finished) (q : ℕ) → laid_as lay_reply (pick b (Err (TrailingBytes (length s - q))) (Ok (finished f, q))) ≡ laid_as lay_finished (pick b (Err (TrailingBytes (length s - q))) (Ok (f, q)))
      on true f q = refl
      on false f q = refl

      go : (g : Got Finished) → laid_as lay_reply (ended s (then g (λ f q. Ok (finished f, q)))) ≡ laid_as lay_finished (ended s g)
      go (Ok (f, q)) = on (ltb q (length s)) f q
      go (Err e) = refl

  pub ids_read : {count p q : ℕ} {l : List ℕ} → get_u64 s 0 ≡ Ok (count, p) → read_times varint count s p ≡ Ok (l, q) → read_ids s ≡ Ok (l, q)
  unfolding read_ids
  ids_read h k = rw (h, k)

  pub types_read : (limit : ℕ) {count p q : ℕ} {l : List Predicate} → get_u64 s 0 ≡ Ok (count, p) → read_times (predicate limit) count s p ≡ Ok (l, q)
      → read_types limit s ≡ Ok (l, q)
  unfolding read_types
  types_read limit h k = rw (h, k)

  pub profile_read : {count p q : ℕ} {l : List Step} → get_u64 s 0 ≡ Ok (count, p) → count ≤ length s → read_times step count s p ≡ Ok (l, q)
      → profile.read s 0 ≡ Ok (l, q)
  profile_read {count} h c k = rw (h, le-ltb (length s) count c, k)

  pub fetch_read : {d : Option ℕ} {p count r q : ℕ} {l : List ℕ} → digest.read s 0 ≡ Ok (d, p) → get_u64 s p ≡ Ok (count, r) → count ≤ 4096
      → read_times pair count s r ≡ Ok (l, q) → fetch.read s 0 ≡ Ok ((record { digest = d; ids = l }), q)
  fetch_read {count = count} h i c k = rw (h, i, le-ltb 4096 count c, k)

  pub startup_read : {v p q r f u count w e : ℕ} {d : List ℕ} {m : Mode} {l : List Claim} → get_u64 s 0 ≡ Ok (v, p) → name.read s p ≡ Ok (d, q)
      → mode.read s q ≡ Ok (m, r) → get_u64 s r ≡ Ok (f, u) → get_u64 s u ≡ Ok (count, w) → read_times claim count s w ≡ Ok (l, e)
      → startup.read s 0 ≡ Ok ((record { version = v; database = d; mode = m; fingerprint = f; claims = l }), e)
  startup_read h i j k g c = rw (h, i, j, k, g, c)

-- where the numbers of a page end
pub page_inside : (s : List ℕ) {limit p n q : ℕ} → get_le 8 s 0 ≡ Ok (limit, p) → get_le 4 s p ≡ Ok (n, q) → q ≤ length s
page_inside s h k = (get_le_ends 4 s _ _ _ (get_le_ends 8 s 0 _ _ (omega arith) h).1 k).1

module _ (s : List ℕ) where
  -- the rest of a page's payload, which may be no text
  pub page_bad : {limit p n q : ℕ} → get_le 8 s 0 ≡ Ok (limit, p) → get_le 4 s p ≡ Ok (n, q) → n ≤ length s - q → utf8 (drop (q + n) s) ≡ false
      → read_page s ≡ Err BadString
  unfolding read_page
  page_bad {n = n} {q} h k l u = rw (h, k, le-ltb (length s - q) n l, u)

  -- where the page was accepted, it is one
  pub page_again : {limit p n q : ℕ} → get_le 8 s 0 ≡ Ok (limit, p) → get_le 4 s p ≡ Ok (n, q) → n ≤ length s - q → Accepted (read_page s) → utf8 (drop (q + n) s) ≡ true
  page_again {n = n} {q} h k l a = go (utf8 (drop (q + n) s)) refl
    where
      go : (b : Bool) → utf8 (drop (q + n) s) ≡ b → b ≡ true
      go true e = refl
      go false e = absurd (rw (page_bad h k l e) at a)

  pub page_read : {limit p n q : ℕ} → get_le 8 s 0 ≡ Ok (limit, p) → get_le 4 s p ≡ Ok (n, q) → n ≤ length s - q → utf8 (drop (q + n) s) ≡ true
      → read_page s ≡ Ok ((record { limit = limit; cursor = part s q n; query = drop (q + n) s }), length s)
  unfolding read_page
  page_read {n = n} {q} h k l u = rw (h, k, le-ltb (length s - q) n l, u)
