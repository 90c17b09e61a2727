-- What decoding answers and leaves, from what its two readings tell.
use mathlib.Core.Bool.{Bool, true, false, ◌&&◌, and-false}
use mathlib.Core.Path.{◌≡◌, refl, sym, ◌∙◌, ap}
use mathlib.Core.Logic.{◌⊎◌, ⊎_elim}
use mathlib.Core.List.{List, [], ◌∷◌}
use Prim.Native.Nat.{ℕ, ◌≤◌, ◌<◌}
use native.Mathlib.Omega.{arith}
use lib.Dec.{ltb, leb, eqb}
use lib.ListN.{length}
use lib.Seq.{sets}
use borrow.Author.Tests.{eqb-true, ltb-true, ltb-false, lt-ltb, le-ltb, le-leb, lt-leb, ne_eqb}
use Rattle.varint.specs.Got.{Got}
use Rattle.varint.specs.Inner.Again.{Again}
use Rattle.varint.specs.Lent.{Left, kept, fitted, settled}
use Rattle.varint.specs.Stores.{part, clear_from}
use Rattle.varint.specs.Choice.{pick}
use Rattle.varint.specs.declared.error.Buffer.{Buffer}
use Rattle.varint.specs.declared.error.Buffer.TheVariants.{Text, Rows, Nodes}
use Rattle.varint.specs.declared.error.Refusal.{Refusal}
use Rattle.varint.specs.declared.error.Refusal.TheVariants.{BlockTooLarge, TooSmall}
use Rattle.varint.proofs.Basics.{clash, both, never}
use Rattle.varint.proofs.Agains.{accepted}
use Rattle.varint.proofs.LentLaws.{Takes, fitted_text, fitted_rows, fitted_nodes, fitted_all}
use Rattle.varint.proofs.StoreLaws.{part_all}
use Rattle.protocol.specs.Decoding.{taken_by, decode_message}
use Rattle.protocol.specs.Laying.{Laid}
use Rattle.protocol.specs.Inner.Loading.{room, laid_as, Sized, ReadsWhole, bare_left}
use Rattle.protocol.specs.Said.{Said, opaque, read_entry, read_message, lay}
use Rattle.protocol.specs.declared.message.Message.{Message}
use Rattle.protocol.specs.declared.message.Message.TheVariants as Msg
use Rattle.protocol.proofs.MessageReads.{plainly, bare_whole, ReadsEntry}
use Rattle.std.specs.Prelude.{Ok, Err, Result}

-- What fits in the lent memory

module _ (buffer : Buffer) (lent n : ℕ) {x : Result (Unit {0}) Refusal} (is : x ≡ room buffer lent n) where
  room_is : (b : Bool) → ltb lent n ≡ b → x ≡ pick b (Err (TooSmall buffer n)) (Ok tt)
  room_is b e = is ∙ ap (λ (z : Bool). pick {A = Result (Unit {0}) Refusal} z (Err (TooSmall buffer n)) (Ok tt)) e

  pub too_short : {e : Refusal} → x ≡ Err e → (lent < n) × (e ≡ TooSmall buffer n)
  too_short {e} i = go (ltb lent n) refl
    where
      go : (b : Bool) → ltb lent n ≡ b → (lent < n) × (e ≡ TooSmall buffer n)
      go true z = let k = sym i ∙ room_is true z in (ltb-true lent n z, cc (k))
      go false z = let k = sym i ∙ room_is false z in never (cc (k))

  pub long_enough : {u : Unit {0}} → x ≡ Ok u → n ≤ lent
  long_enough i = go (ltb lent n) refl
    where
      go : (b : Bool) → ltb lent n ≡ b → n ≤ lent
      go true z = let k = sym i ∙ room_is true z in never (cc (k))
      go false z = ltb-false lent n z

-- What the readings tell

-- a message was read, and takes so much memory
record Measured (g : Got Said) (message : Message) (t r k : ℕ) : Type 0 where
  value : Said
  next : ℕ
  is : g ≡ Ok (value, next)
  says : message ≡ (lay value).message
  takes : Takes (taken_by (lay value)) t r k

module _ {tx rs nd tx₁ rs₁ nd₁ : List ℕ} {x : Result Sized Refusal} where
  first_refused : (g : Got Said) {e : Refusal} → ReadsWhole true (laid_as lay g) tx rs nd x tx₁ rs₁ nd₁ → x ≡ Err e → g ≡ Err e
  first_refused (Err r) h i = let f = h.refused r refl in cc (f, i)
  first_refused (Ok (m, q)) h i = let f = h.read (lay m) q refl in never (cc (f, i))

  first_read : (g : Got Said) {message : Message} {t r k : ℕ} → ReadsWhole true (laid_as lay g) tx rs nd x tx₁ rs₁ nd₁ → x ≡ Ok (message, t, r, k)
      → Measured g message t r k
  first_read (Err r) h i = let f = h.refused r refl in never (cc (f, i))
  first_read (Ok (m, q)) {message} {t} {r} {k} h i =
      let f = h.read (lay m) q refl in
      let e : ◌≡◌ {A = Sized} (message, t, r, k) ((lay m).message, length (lay m).piece.text, length ((lay m).piece.rows 0 0), length ((lay m).piece.nodes 0 0)) = cc (f, i) in
      record {
        value = m;
        next = q;
        is = refl;
        says = ap (λ (y : Sized). y.0) e;
        takes = record { text = ap (λ (y : Sized). y.1) e; rows = ap (λ (y : Sized). y.2) e; nodes = ap (λ (y : Sized). y.3) e };
      }

-- what takes no memory need not be stored
sets_none : (d x : List ℕ) → length x ≡ 0 → d ≡ sets d 0 x
sets_none d [] h = refl
sets_none d (y ∷ ys) h = absurd (omega arith)

pub all_none : (t r k : ℕ) → (eqb t 0 && eqb r 0 && eqb k 0) ≡ true → (t ≡ 0) × (r ≡ 0) × (k ≡ 0)
all_none t r k h =
    let a = both (eqb t 0 && eqb r 0) (eqb k 0) h in
    let b = both (eqb t 0) (eqb r 0) a.0 in
    (eqb-true t 0 b.0, eqb-true r 0 b.1, eqb-true k 0 a.1)

-- Which entries name a message

abbrev names : ℕ → Bool
names entry = ltb 0 entry && leb entry 12

names_not : (entry : ℕ) → (entry ≡ 0) ⊎ (12 < entry) → names entry ≡ false
names_not entry =
    ⊎_elim (λ (z : entry ≡ 0). rw (le-ltb 0 entry (omega arith))) (λ (z : 12 < entry). rw (lt-leb entry 12 z) (and-false (ltb 0 entry)))

differs : (entry n : ℕ) → names entry ≡ false → names n ≡ true → eqb entry n ≡ false
differs entry n f t = ne_eqb entry n (λ e. clash t (ap names (sym e) ∙ f))

-- The ways out of the decoder

module _ (max limit entry : ℕ) (s tx rs nd : List ℕ) where
  abbrev Decoded : Left Message → Type 0
  Decoded x = x ≡ decode_message max limit entry s tx rs nd

  pub decode_long : 0 < entry → entry ≤ 12 → max < length s → Decoded (kept (BlockTooLarge (length s) max) tx rs nd)
  unfolding decode_message settled read_message
  decode_long a b h = rw (lt-ltb 0 entry a, le-leb entry 12 b, lt-ltb max (length s) h)

  -- an entry that names no message: its payload is the one text, however long
  module _ (o : (entry ≡ 0) ⊎ (12 < entry)) where
    opaque_read : read_message max limit entry s ≡ Ok (opaque s, length s)
    unfolding read_message read_entry
    opaque_read =
        let f = names_not entry o in
        let d : (n : ℕ) → names n ≡ true → eqb entry n ≡ false = λ n. differs entry n f in
        rw (f, d 1 refl, d 2 refl, d 3 refl, d 4 refl, d 5 refl, d 6 refl, d 7 refl, d 8 refl, d 9 refl, d 10 refl, d 11 refl, d 12 refl)

    opaque_fitted : fitted (lay (opaque s)).message (taken_by (lay (opaque s))) tx rs nd ≡ decode_message max limit entry s tx rs nd
    unfolding decode_message settled
    opaque_fitted = rw opaque_read

    opaque_takes : Takes (taken_by (lay (opaque s))) (length s) 0 0
    unfolding lay
    opaque_takes = record { text = refl; rows = refl; nodes = refl }

    pub decode_opaque_short : length tx < length s → Decoded (kept (TooSmall Text (length s)) tx rs nd)
    decode_opaque_short h = fitted_text (lay (opaque s)).message (taken_by (lay (opaque s))) opaque_takes tx rs nd h ∙ opaque_fitted

    pub decode_opaque : length s ≤ length tx → {tx₁ tx₂ rs₂ nd₂ : List ℕ} → tx₁ ≡ sets tx 0 (part s 0 (length s))
        → tx₂ ≡ clear_from tx₁ (length s) → rs₂ ≡ clear_from rs 0 → nd₂ ≡ clear_from nd 0
        → Decoded (record { answer = Ok (Msg.Opaque (record { start = 0; len = length s })); text = tx₂; rows = rs₂; nodes = nd₂ })
    unfolding lay
    decode_opaque h e f g i =
        fitted_all (lay (opaque s)).message (taken_by (lay (opaque s))) opaque_takes tx rs nd h (omega arith) (omega arith) (e ∙ ap (sets tx 0) (part_all s)) refl refl f g i ∙ opaque_fitted

  -- an entry that names one, and a payload that is not too long
  module _ (short : length s ≤ max) where
    settles : settled (λ v q. (lay v).message) (λ v. taken_by (lay v)) (read_entry limit entry s) tx rs nd ≡ decode_message max limit entry s tx rs nd
    unfolding decode_message read_message
    settles = rw (le-ltb max (length s) short, and-false (names entry))

    once : {x : Result Message Refusal} → ReadsEntry entry s x → ReadsWhole true (laid_as lay (read_entry limit entry s)) tx rs nd (plainly x) tx rs nd
    once h = bare_whole true tx rs nd (laid_as lay (read_entry limit entry s)) (h.empty limit) (h.reads limit)

    module _ {tx₀ rs₀ nd₀ tx₀' rs₀' nd₀' : List ℕ} {x₁ : Result Sized Refusal}
        (first : ReadsWhole true (laid_as lay (read_entry limit entry s)) tx₀ rs₀ nd₀ x₁ tx₀' rs₀' nd₀') where
      pub decode_refused : {e : Refusal} → x₁ ≡ Err e → Decoded (kept e tx rs nd)
      unfolding settled
      decode_refused i = rw (← settles, first_refused (read_entry limit entry s) first i)

      module _ {message : Message} {t r k : ℕ} (i : x₁ ≡ Ok (message, t, r, k)) where
        read : Measured (read_entry limit entry s) message t r k
        read = first_read (read_entry limit entry s) first i

        abbrev laid : Laid
        laid = lay read.value

        read_fitted : fitted laid.message (taken_by laid) tx rs nd ≡ decode_message max limit entry s tx rs nd
        unfolding settled
        read_fitted = sym (ap (λ (g : Got Said). settled {A = Message} (λ v q. (lay v).message) (λ v. taken_by (lay v)) g tx rs nd) read.is) ∙ settles

        pub decode_short_text : length tx < t → Decoded (kept (TooSmall Text t) tx rs nd)
        decode_short_text h = fitted_text laid.message (taken_by laid) read.takes tx rs nd h ∙ read_fitted

        pub decode_short_rows : t ≤ length tx → length rs < r → Decoded (kept (TooSmall Rows r) tx rs nd)
        decode_short_rows a h = fitted_rows laid.message (taken_by laid) read.takes tx rs nd a h ∙ read_fitted

        pub decode_short_nodes : t ≤ length tx → r ≤ length rs → length nd < k → Decoded (kept (TooSmall Nodes k) tx rs nd)
        decode_short_nodes a b h = fitted_nodes laid.message (taken_by laid) read.takes tx rs nd a b h ∙ read_fitted

        -- the second reading relies on the first
        pub decode_again : {check : Bool} → Again check (read_entry limit entry s)
        decode_again z = accepted read.is

        pub decode_done : t ≤ length tx → r ≤ length rs → k ≤ length nd → {x₂ : Result Sized Refusal} {tx₁ rs₁ nd₁ tx₂ rs₂ nd₂ : List ℕ}
            → ReadsWhole false (laid_as lay (read_entry limit entry s)) tx rs nd x₂ tx₁ rs₁ nd₁
            → tx₂ ≡ clear_from tx₁ t → rs₂ ≡ clear_from rs₁ r → nd₂ ≡ clear_from nd₁ k
            → Decoded (record { answer = Ok message; text = tx₂; rows = rs₂; nodes = nd₂ })
        decode_done a b c {x₂ = x₂} second e f g =
            let w = second.left laid read.next (ap (laid_as lay) read.is) in
            rw read.says (fitted_all laid.message (taken_by laid) read.takes tx rs nd a b c w.0 w.1 w.2 e f g ∙ read_fitted)

        pub decode_none : t ≡ 0 → r ≡ 0 → k ≡ 0 → {tx₂ rs₂ nd₂ : List ℕ} → tx₂ ≡ clear_from tx 0 → rs₂ ≡ clear_from rs 0 → nd₂ ≡ clear_from nd 0
            → Decoded (record { answer = Ok message; text = tx₂; rows = rs₂; nodes = nd₂ })
        decode_none a b c e f g =
            let z = read.takes in
            rw read.says
            (fitted_all laid.message (taken_by laid) z tx rs nd (omega arith) (omega arith) (omega arith)
            (sets_none tx laid.piece.text (sym z.text ∙ a)) (sets_none rs (laid.piece.rows 0 0) (sym z.rows ∙ b)) (sets_none nd (laid.piece.nodes 0 0) (sym z.nodes ∙ c))
            (e ∙ ap (clear_from tx) (sym a)) (f ∙ ap (clear_from rs) (sym b)) (g ∙ ap (clear_from nd) (sym c))
            ∙ read_fitted)

    -- a message of numbers alone is read once, and takes none
    module _ {x : Result Message Refusal} (h : ReadsEntry entry s x) where
      pub decode_bare_refused : {e : Refusal} → x ≡ Err e → Decoded (kept e tx rs nd)
      decode_bare_refused i = decode_refused (once h) (ap plainly i)

      pub decode_bare_read : {message : Message} → x ≡ Ok message → {tx₂ rs₂ nd₂ : List ℕ} → tx₂ ≡ clear_from tx 0 → rs₂ ≡ clear_from rs 0 → nd₂ ≡ clear_from nd 0
          → Decoded (record { answer = Ok message; text = tx₂; rows = rs₂; nodes = nd₂ })
      decode_bare_read i e f g = decode_none (once h) (ap plainly i) refl refl refl e f g

    pub decode_bare_lem : {x : Result Message Refusal} → ReadsEntry entry s x → Decoded (bare_left x tx rs nd)
    decode_bare_lem {x = Ok m} h = decode_bare_read h refl refl refl refl
    decode_bare_lem {x = Err e} h = decode_bare_refused h refl
