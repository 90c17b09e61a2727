-- After every list of pieces the header and the hold are zero past what is held.
use mathlib.Core.Path.{◌≡◌}
use mathlib.Core.List.{List, append-nil}
use Prim.Native.Nat.{ℕ, zero, suc, ◌-◌, ◌≤◌}
use native.Mathlib.Nat.{sub-zero}
use native.Mathlib.Omega.{arith}
use lib.ListN.{length, take, drop, length-take, length-drop}
use lib.Seq.{take_at, take_all}
use Rattle.varint.specs.declared.error.Refusal.{Refusal}
use Rattle.frame.specs.Worlds.{Limits, Setup, Lent, editor, pad}
use Rattle.frame.specs.Reading.{First, done, after, first, holding, stopped_at, read, reading}
use Rattle.frame.specs.Driving.{joined}
use Rattle.frame.specs.Runs.{ZeroAfter, EveryRest}
use Rattle.frame.proofs.Firsts.{View, v_head, v_load, v_bad, v_whole, view}
use Rattle.frame.proofs.OfferSteps.{front}
use Rattle.frame.proofs.ReadSteps.{read_short, read_bad, read_whole}
use Rattle.frame.proofs.Cutting.{every_cut}

module _ (l : Limits) (c : Setup) where
  payload_rest : (n : ℕ) (s : List ℕ) → pad n (drop 9 s) ≡ pad n (take (length s - 9) (pad n (drop 9 s)))
  unfolding pad
  payload_rest n s = rw (take_at (drop 9 s) _ (length s - 9) (length-drop 9 s))

  held_rest : (s : List ℕ) (b : Lent) → ZeroAfter (holding l c s b)
  unfolding holding
  held_rest s b = record { header = rw (front l c s); hold = payload_rest c.room s }

  ended_rest : (s : List ℕ) (e : Refusal) (b : Lent) → 9 ≤ length s → ZeroAfter (stopped_at l c (take 9 s) e b)
  unfolding stopped_at pad
  ended_rest s e b h =
      let k : length (take 9 s) ≡ 9 = rw length-take (omega arith) in
      record { header = rw (take_all 9 (take 9 s) (omega arith), k, append-nil); hold = rw sub-zero }

  -- by what stands first, with the same for what follows a frame
  step_rest : (n : ℕ) (ih : (s : List ℕ) (b : Lent) → ZeroAfter (read l c n s b).world) (s : List ℕ) (b : Lent) (x : First) → View l c s x
      → ZeroAfter (read l c (suc n) s b).world
  unfolding done after
  step_rest n ih s b x (v_head h) = rw (read_short l c n s b (v_head h)) (held_rest s b)
  step_rest n ih s b x (v_load h d m) = rw (read_short l c n s b (v_load h d m)) (held_rest s b)
  step_rest n ih s b x (v_bad {e} h d) = rw (read_bad l c n s b e (v_bad h d)) (ended_rest s e b h)
  step_rest n ih s b x (v_whole {n = m} h d) = rw (read_whole l c n s b m (v_whole h d)) (ih _ _)

  read_rest : (n : ℕ) (s : List ℕ) (b : Lent) → ZeroAfter (read l c n s b).world
  unfolding read done
  read_rest zero s b = held_rest s b
  read_rest (suc n) s b = step_rest n (read_rest n) s b (first l c s) (view l c s)

  pub reading_rest : (s : List ℕ) (b : Lent) → ZeroAfter (reading l c s b).world
  unfolding reading
  reading_rest s b = read_rest (suc (length s)) s b

pub every_rest : EveryRest
every_rest before table hold lent ps h =
    rw (every_cut before table hold lent ps h).run (reading_rest editor (record { table = table; room = length hold }) (joined ps) lent)
