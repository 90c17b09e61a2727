-- Each way out of the receiver's functions, over plain values.
use mathlib.Core.Path.{◌≡◌, refl, sym, ap, ◌∙◌}
use mathlib.Core.Bool.{Bool, true, false, true≢false}
use mathlib.Core.List.{List, ◌++◌, append-nil}
use Prim.Native.Nat.{ℕ, ◌+◌, ◌-◌, ◌≤◌, ◌<◌, min}
use native.Mathlib.Nat.{sub-zero}
use native.Mathlib.Omega.{arith}
use borrow.Author.Tests.{lt-ltb, le-ltb, ltb-true, ltb-false, leb-false, eq-eqb}
use lib.Dec.{ltb, leb}
use lib.ListN.{length, take, drop, replicate, length-append, length-take, length-drop, length-replicate}
use lib.Seq.{sets, sets-eq, take_at, drop-append-add, take_all, length-take-le, length-sets}
use Rattle.std.proofs.lemmas.List.{drop-replicate}
use Rattle.varint.specs.Stores.{part, fill_from, clear_from}
use Rattle.frame.specs.declared.FrameHeader.{FrameHeader}
use Rattle.frame.specs.declared.receiver.Outcome.TheVariants.{More}
use Rattle.frame.specs.declared.receiver.Progress.{Progress}
use Rattle.frame.specs.declared.receiver.Receiver.{Receiver}
use Rattle.frame.specs.Frames.{header_of}
use Rattle.frame.specs.Worlds.{World, editor, pad}
use Rattle.frame.specs.Reading.{Verdict, refuse, gather, judge, decoded_kind}
use Rattle.frame.specs.Offering.{setup_of, advanced, header_held, overfull, impossible, handed, loads, settles, takes, offering, world_of, offer_of}

-- ---- impossible counts

module _ (p : Progress) (nine : length p.header ≡ 9) where
  pub impossible_nine : (v : Verdict) → p.header_len ≤ 9 → 9 ≤ p.header_len → judge editor p.hold_len p.header ≡ v
      → impossible editor p ≡ overfull v p.payload_len
  unfolding impossible
  impossible_nine v l m e =
      let t : take p.header_len p.header ≡ p.header = take_all p.header_len p.header (omega arith) in
      rw (le-ltb _ _ l, le-ltb _ _ m, t, e)

  -- what the code may rely on once the counts are possible
  header_possible : (b : Bool) → ltb 9 p.header_len ≡ b → impossible editor p ≡ false → p.header_len ≤ 9
  unfolding impossible
  header_possible false e f = ltb-false _ _ e
  header_possible true e f = let z : true ≡ false = rw e at f in absurd (true≢false z)

  pub header_fits : impossible editor p ≡ false → p.header_len ≤ 9
  header_fits f = header_possible (ltb 9 p.header_len) refl f

-- ---- a hold that is cleared

pub cleared : (d : List ℕ) → clear_from d 0 ≡ replicate (length d) 0
unfolding fill_from
cleared d = rw sub-zero

-- ---- the header that is held, and the bytes that it lacks

pub header_filled : (held z p : List ℕ) (at : ℕ) → length held ≡ 9 → at ≤ 9 → z ≡ clear_from held at
    → sets z at (part p 0 (9 - at)) ≡ pad 9 (take at held ++ take (9 - at) p)
unfolding fill_from part pad
header_filled held z p at n l c =
    let a : length (take at held) ≡ at = length-take-le at held (omega arith) in
    let m : length (take (9 - at) p) ≤ 9 - at = rw length-take (omega arith) in
    let room : at + length (take (9 - at) p) ≤ length (take at held ++ replicate (length held - at) 0) = rw (length-append, length-replicate, a) (omega arith) in
    let t : take at (take at held ++ replicate (length held - at) 0) ≡ take at held = take_at (take at held) _ at a in
    let e : length held - at - length (take (9 - at) p) ≡ 9 - (at + length (take (9 - at) p)) = omega arith in
    let d : drop (at + length (take (9 - at) p)) (take at held ++ replicate (length held - at) 0) ≡ replicate (9 - (at + length (take (9 - at) p))) 0 =
    ap (λ (i : ℕ). drop (i + length (take (9 - at) p)) (take at held ++ replicate (length held - at) 0)) (sym a)
    ∙ drop-append-add (take at held) (replicate (length held - at) 0) (length (take (9 - at) p))
    ∙ drop-replicate (length (take (9 - at) p)) (length held - at) 0
    ∙ ap (λ (i : ℕ). replicate i 0) e in
    rw c (sets-eq (take (9 - at) p) (take at held ++ replicate (length held - at) 0) at room ∙ rw (t, d, length-append, a))

pub header_kept : (held p : List ℕ) (at : ℕ) → length held ≡ 9 → at ≡ 9 → held ≡ pad 9 (take at held ++ take (9 - at) p)
unfolding pad
header_kept held p at n e =
    let k : 9 - at ≡ 0 = omega arith in
    let t : take at held ≡ held = take_all at held (omega arith) in
    let z : 9 - length held ≡ 0 = omega arith in
    rw (k, t, append-nil, z, append-nil)

-- ---- the payload is gathered

module _ (r : Receiver) (u n : ℕ) (q hold text rows nodes : List ℕ) (have : r.progress.payload_len ≤ n) (fits : n ≤ length hold) where
  -- the hold with the bytes that were there
  abbrev pub stored : List ℕ
  stored = sets hold r.progress.payload_len (part q 0 (n - r.progress.payload_len))

  abbrev payload : List ℕ
  payload = take r.progress.payload_len hold ++ take (n - r.progress.payload_len) q

  payload_length : length payload ≡ r.progress.payload_len + min (n - r.progress.payload_len) (length q)
  payload_length = rw (length-append, length-take, length-take) (omega arith)

  hold_is : stored ≡ payload ++ drop (length payload) hold
  unfolding part
  hold_is =
      let a : length (take r.progress.payload_len hold) ≡ r.progress.payload_len = length-take-le r.progress.payload_len hold (omega arith) in
      let m : r.progress.payload_len + length (take (n - r.progress.payload_len) q) ≤ length hold = rw length-take (omega arith) in
      sets-eq (take (n - r.progress.payload_len) q) hold r.progress.payload_len m ∙ rw (length-append, a)

  pub loaded_short : length q < n - r.progress.payload_len
      → loads editor (world_of r hold text rows nodes) r.progress.header u q n
      ≡ offer_of (record { used = u + length q; outcome = More }) (advanced r r.progress.header 9 (r.progress.payload_len + length q)) stored text rows nodes
  unfolding loads
  loaded_short l =
      let k : length payload ≡ r.progress.payload_len + length q = omega (arith, payload_length) in
      let m : length payload < n = omega arith in
      rw (lt-ltb _ _ m, ← hold_is, k)

  loaded_take : n - r.progress.payload_len ≤ length q → take n stored ≡ payload
  loaded_take l =
      let k : length payload ≡ n = omega (arith, payload_length) in
      rw hold_is (take_at payload (drop (length payload) hold) n k)

  pub loaded_whole : (h : FrameHeader) → h ≡ header_of r.progress.header → h.length ≡ n → n - r.progress.payload_len ≤ length q
      → handed (world_of r stored text rows nodes) h (u + (n - r.progress.payload_len)) (decoded_kind editor (setup_of r) h.kind.0 (take n stored) (record { text = text; rows = rows; nodes = nodes }))
      ≡ loads editor (world_of r hold text rows nodes) r.progress.header u q n
  unfolding loads handed
  loaded_whole h e f l =
      let k : n ≤ length payload = omega (arith, payload_length) in
      let z : length stored ≡ length hold = length-sets hold r.progress.payload_len (part q 0 (n - r.progress.payload_len)) in
      rw (le-ltb _ _ k, loaded_take l, z, e)

-- ---- an offer

module _ (r : Receiver) (piece hold text rows nodes : List ℕ) where
  abbrev here : World
  here = world_of r hold text rows nodes

  abbrev bytes : List ℕ
  bytes = header_held r.progress ++ take (9 - r.progress.header_len) piece

  -- the receiver with the header filled
  abbrev pub filled : Receiver
  filled = record r { progress = record r.progress { header = pad 9 bytes } }

  -- a header that is held already makes no difference
  settles_filled : (v : Verdict) (hd : List ℕ) (u : ℕ) (q : List ℕ) → settles editor v (world_of filled hold text rows nodes) hd u q ≡ settles editor v here hd u q
  unfolding settles loads handed
  settles_filled (refuse e) hd u q = refl
  settles_filled (gather n) hd u q = refl

  module _ (same : length hold ≡ r.progress.hold_len) (runs : r.progress.stop ≡ 0) (possible : impossible editor r.progress ≡ false) (nine : length r.progress.header ≡ 9) where
    goes_on : offering editor here piece ≡ takes editor here piece
    unfolding offering
    goes_on = rw (eq-eqb _ _ same, eq-eqb _ _ runs, possible)

    bytes_length : length bytes ≡ r.progress.header_len + min (9 - r.progress.header_len) (length piece)
    bytes_length = let l : r.progress.header_len ≤ 9 = header_fits r.progress nine possible in rw (length-append, length-take, length-take) (omega arith)

    room_before : r.progress.header_len < 9 → r.progress.payload_len ≡ 0
    unfolding impossible
    room_before l =
        let f : ltb 0 r.progress.payload_len ≡ false = rw (le-ltb _ _ (header_fits r.progress nine possible), lt-ltb _ _ l) at possible in
        omega (arith, ltb-false 0 r.progress.payload_len f)

    pub header_short : length piece < 9 - r.progress.header_len
        → offer_of (record { used = length piece; outcome = More }) (advanced filled filled.progress.header (r.progress.header_len + length piece) r.progress.payload_len) hold text rows nodes
        ≡ offering editor here piece
    unfolding takes
    header_short l =
        let k : length bytes ≡ r.progress.header_len + length piece = omega (arith, bytes_length) in
        let m : length bytes < 9 = omega arith in
        let z : r.progress.payload_len ≡ 0 = room_before (omega arith) in
        rw (goes_on, lt-ltb _ _ m, k, z)

    header_whole : 9 - r.progress.header_len ≤ length piece → pad 9 bytes ≡ bytes
    unfolding pad
    header_whole l =
        let k : 9 - length bytes ≡ 0 = omega (arith, bytes_length, header_fits r.progress nine possible) in
        rw k (append-nil bytes)

    -- what is left of the piece is the part that the code takes of it
    pub header_there : 9 - r.progress.header_len ≤ length piece
        → offering editor here piece
        ≡ settles editor (judge editor r.progress.hold_len filled.progress.header) (world_of filled hold text rows nodes) filled.progress.header (9 - r.progress.header_len)
        (take (length piece - (9 - r.progress.header_len)) (drop (9 - r.progress.header_len) piece))
    unfolding takes
    header_there l =
        let k : 9 ≤ length bytes = omega (arith, bytes_length, header_fits r.progress nine possible) in
        let q : List ℕ = drop (9 - r.progress.header_len) piece in
        let rest : take (length piece - (9 - r.progress.header_len)) q ≡ q = take_all _ _ (rw length-drop (omega arith)) in
        sym (rw rest (settles_filled _ _ _ _ ∙ rw (goes_on, le-ltb _ _ k, header_whole l)))

    -- the payload held is no longer than the frame
    room_nine : (n : ℕ) → 9 ≤ r.progress.header_len → judge editor r.progress.hold_len (pad 9 bytes) ≡ gather n → r.progress.payload_len ≤ n
    room_nine n l j =
        let m : r.progress.header_len ≤ 9 = header_fits r.progress nine possible in
        let k : 9 - r.progress.header_len ≡ 0 = omega arith in
        let t : take r.progress.header_len r.progress.header ≡ r.progress.header = take_all r.progress.header_len r.progress.header (omega arith) in
        let b : pad 9 bytes ≡ r.progress.header = header_whole (omega arith) ∙ rw (k, t) (append-nil r.progress.header) in
        let f : leb n r.progress.payload_len ≡ false = sym (impossible_nine r.progress nine (gather n) m l (rw b at j)) ∙ possible in
        let q : r.progress.payload_len < n = leb-false _ _ f in
        omega arith

    pub room : (n : ℕ) → judge editor r.progress.hold_len filled.progress.header ≡ gather n → r.progress.payload_len ≤ n
    room n j = by_count (ltb r.progress.header_len 9) refl
      where
        by_count : (b : Bool) → ltb r.progress.header_len 9 ≡ b → r.progress.payload_len ≤ n
        by_count true e = omega (arith, room_before (ltb-true _ _ e))
        by_count false e = room_nine n (ltb-false _ _ e) j
