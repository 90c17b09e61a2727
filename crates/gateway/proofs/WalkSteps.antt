-- A part of what lies in memory is lent as `&` for a call, and comes back: `&r.table` behind a `&mut` whose borrow is open.
use mathlib.Core.Path.{◌≡◌, refl, ap}
use mathlib.Core.List.{List, [], ◌∷◌}
use Prim.Native.Nat.{ℕ}
use seplogic.Ra.Ura.{Ura}
use mir.Syntax.{Lifetime}
use mir.Val.{Val, vptr}
use ghost.Rules.{Toks, span}
use base.Logic.{SProp, ent, sep, emp, wand, all, all_e, apply∗, id⊢}
use base.Fml.{Lft, Share, Incl, ftrue, fat, fdead, flent}
use types.Logic.{Logic, sem, lfts}
use types.Kit.{Item, ‵, raw, some, later, mean, ◌⊛◌, ◌$◌, ◌∵◌, !, qed, move, drop, use0, use1, use2, use3, split, join, pick, rewrite, await, updating, now as at_once, done}
use types.Part.{Part}
use types.Tokens.{lent_back}
use denote.RattleType.{RattleType}
use denote.Laws.{Is, Makes, shows}
use denote.Lend.{LentShr, lends_shr, lends_free}
use denote.Lends.{Lent as LentFree}
use denote.Memory.{part_at, lone, shared_of}
use denote.Ref.{Bor, ShrRef}
use denote.Shares.{SharesFrom}
use denote.Steps.{only, owned, peeks}
use borrow.Table.OneValue.{One, part_out, part_in}

-- the part is a value h of any type R of one machine value, and any share q of it is at hand
module _ {M : Type 1} {𝓤 : Ura M} (𝓛 : Logic 𝓤) (R : RattleType) (one : One R) (i : Item 𝓤) (q : Share) (b o : ℕ) (h : R.Denot) (v : Val) (back : Val → Item 𝓤) where
  open 𝓛 use {H, A}

  -- from the part's cell with any value back to the whole
  abbrev Back : SProp 𝓤
  Back = all 𝓤 (λ (u : Val). wand 𝓤 (H.at q (lone R.mir) b o u) (mean 𝓛 (back u)))

  -- what the lender keeps while the part is lent for κ
  abbrev pub Kept : Lft → Item 𝓤
  Kept κ = ‵ (flent κ (part_at R q h b o)) ⊛ raw Back

  -- the reference to the part
  abbrev pub at_part : Bor R.Denot
  at_part = record { ref_ptr = (b, o); now = h }

  -- what is had once the part is lent for κ: a `&` to it, and what the lender keeps
  abbrev pub LentPart : Lifetime → Lft → SProp 𝓤
  LentPart ℓ κ = sep 𝓤 (sem 𝓛 ((ShrRef ℓ κ R).own_val at_part (vptr b o ∷ []))) (mean 𝓛 (Kept κ))

  -- however the value is lent, out of T and with T back, so is the part
  lends_with : {K : Type 0} → Part K 𝓛 i q (lone R.mir) b o v back → (ℓ : Lifetime) (κ : Lft) (T : SProp 𝓤) → ent 𝓤 (sep 𝓤 (sem 𝓛 (part_at R q h b o)) T) (H.⇛ (sep 𝓤 (LentShr 𝓛 R ℓ κ q h b o) T))
      → ent 𝓤 (sep 𝓤 (mean 𝓛 i) (sep 𝓤 (sem 𝓛 (R.own_val h (v ∷ []))) T)) (H.⇛ (sep 𝓤 (LentPart ℓ κ) T))
  lends_with p ℓ κ T lends =
      qed 𝓛 (i ∷ ‵ (R.own_val h (v ∷ [])) ∷ raw T ∷ []) ∵ updating ! $ use1 𝓛 (‵ (fat q (lone R.mir) b o v) ⊛ raw Back) p.out $ split ! $
      -- [the part's cell; the way back; what the value owns; T]
      move ! (0 ∷ 2 ∷ []) $ use2 𝓛 (‵ (part_at R q h b o)) (part_in 𝓛 R one q h b o v) $ move ! (0 ∷ 2 ∷ []) $
      use2 𝓛 (later ((‵ ((ShrRef ℓ κ R).own_val at_part (vptr b o ∷ [])) ⊛ ‵ (flent κ (part_at R q h b o))) ⊛ raw T)) lends $ await ! tt $ split ! $ split ! $
      -- [the reference; the loan; T; the way back]
      at_once ! $ move ! (1 ∷ 3 ∷ []) $ join ! $ move ! (1 ∷ 0 ∷ []) $ join ! $ done !

  -- the part of a whole, with what its value owns, is lent as `&` for any κ. What it takes is what the loan of a value takes (`lends_shr`): the type's law of sharing, and tokens whose lifetimes' meet is within κ and the law's lifetime. The tokens come back
  pub lends_owned : {K : Type 0} → Part K 𝓛 i q (lone R.mir) b o v back → (ℓ : Lifetime) (κ l : Lft) → SharesFrom 𝓛 q R h (shared_of R h) l → (ts : Toks) → Incl (span ts) l → Incl (span ts) κ
      → ent 𝓤 (sep 𝓤 (mean 𝓛 i) (sep 𝓤 (sem 𝓛 (R.own_val h (v ∷ []))) (lfts 𝓛 ts))) (H.⇛ (sep 𝓤 (LentPart ℓ κ) (lfts 𝓛 ts)))
  lends_owned p ℓ κ l s ts inc sp = lends_with p ℓ κ (lfts 𝓛 ts) (lends_shr 𝓛 R ℓ κ q h b o l s ts inc sp)

  -- the same where the relation makes what the value owns: the whole and the tokens are enough
  pub lends_part : {K : Type 0} → Part K 𝓛 i q (lone R.mir) b o v back → Makes 𝓛 R (Is R) → Is R h (v ∷ []) → (ℓ : Lifetime) (κ l : Lft) → SharesFrom 𝓛 q R h (shared_of R h) l → (ts : Toks) → Incl (span ts) l → Incl (span ts) κ
      → ent 𝓤 (sep 𝓤 (mean 𝓛 i) (lfts 𝓛 ts)) (H.⇛ (sep 𝓤 (LentPart ℓ κ) (lfts 𝓛 ts)))
  lends_part p makes is ℓ κ l s ts inc sp =
      qed 𝓛 (i ∷ raw (lfts 𝓛 ts) ∷ []) ∵ updating ! $ owned ! R (Is R) makes h (v ∷ []) is $ move ! (1 ∷ 0 ∷ []) $
      use3 𝓛 (later (raw (LentPart ℓ κ) ⊛ raw (lfts 𝓛 ts))) (lends_owned p ℓ κ l s ts inc sp) $ await ! tt $ split ! $ at_once ! $ done !

  -- and with no token, where values of the type are lent so (`lends_free`), as those that are Copy are
  pub lends_part_free : {K : Type 0} → Part K 𝓛 i q (lone R.mir) b o v back → Makes 𝓛 R (Is R) → Is R h (v ∷ []) → (ℓ : Lifetime) (κ : Lft) → LentFree 𝓛 (part_at R q h b o) (shared_of R h b o)
      → ent 𝓤 (mean 𝓛 i) (H.⇛ (LentPart ℓ κ))
  lends_part_free p makes is ℓ κ a =
      qed 𝓛 (i ∷ []) ∵ updating ! $ owned ! R (Is R) makes h (v ∷ []) is $ use0 𝓛 (‵ ftrue) (id⊢ 𝓤 (emp 𝓤)) $ move ! (2 ∷ 1 ∷ 0 ∷ []) $
      use3 𝓛 (later (raw (LentPart ℓ κ) ⊛ ‵ ftrue)) (lends_with p ℓ κ (emp 𝓤) (
      qed 𝓛 (‵ (part_at R q h b o) ∷ ‵ ftrue ∷ []) ∵ updating ! $ use1 𝓛 (later (raw (LentShr 𝓛 R ℓ κ q h b o))) (lends_free 𝓛 R ℓ κ q h b o a) $ await ! tt $ at_once ! $ done !)) $ await ! tt $ split ! $ move ! (1 ∷ []) $ drop ! $ at_once ! $ done !

  -- once κ is dead, what was kept gives back the whole as it was, and what the part's value owns: where one machine value alone stands for h
  pub owned_back : {K : Type 0} → Part K 𝓛 i q (lone R.mir) b o v back → ((w : Val) → Is R h (w ∷ []) → w ∷ [] ≡ v ∷ []) → (κ : Lft)
      → ent 𝓤 (sep 𝓤 (A.dead κ) (mean 𝓛 (Kept κ))) (H.⇛ (sep 𝓤 (mean 𝓛 i) (sem 𝓛 (R.own_val h (v ∷ [])))))
  owned_back p tells κ =
      qed 𝓛 (‵ (fdead κ) ∷ Kept κ ∷ []) ∵ updating ! $ move ! (1 ∷ []) $ split ! $ move ! (2 ∷ 0 ∷ []) $ lent_back ! tt $
      use1 𝓛 (some (λ (w : Val). ‵ (fat q (lone R.mir) b o w) ⊛ ‵ (R.own_val h (w ∷ [])))) (part_out 𝓛 R one q h b o) $ pick ! (λ w. split ! $ move ! (1 ∷ []) $
      peeks ! R (Is R) (shows 𝓛 R) h (w ∷ []) (λ is. rewrite ! 0 (λ (us : List Val). ‵ (R.own_val h us)) (tells w is) refl $
      rewrite ! 1 (λ (u : Val). ‵ (fat q (lone R.mir) b o u)) (ap only (tells w is)) refl $
      -- [what the value owns; the part's cell; the way back]
      move ! (2 ∷ []) $ use1 𝓛 (raw (wand 𝓤 (H.at q (lone R.mir) b o v) (mean 𝓛 (back v)))) (all_e 𝓤 (λ (u : Val). wand 𝓤 (H.at q (lone R.mir) b o u) (mean 𝓛 (back u))) v) $ move ! (2 ∷ 0 ∷ []) $
      use2 𝓛 (back v) (apply∗ 𝓤 (H.at q (lone R.mir) b o v) (mean 𝓛 (back v))) $ rewrite ! 0 (λ (j : Item 𝓤). j) p.same refl $ at_once ! $ done !))

  -- the whole alone
  pub part_back : {K : Type 0} → Part K 𝓛 i q (lone R.mir) b o v back → ((w : Val) → Is R h (w ∷ []) → w ∷ [] ≡ v ∷ []) → (κ : Lft)
      → ent 𝓤 (sep 𝓤 (A.dead κ) (mean 𝓛 (Kept κ))) (H.⇛ (mean 𝓛 i))
  part_back p tells κ =
      qed 𝓛 (‵ (fdead κ) ∷ Kept κ ∷ []) ∵ updating ! $ use2 𝓛 (later (i ⊛ ‵ (R.own_val h (v ∷ [])))) (owned_back p tells κ) $ await ! tt $ split ! $ move ! (1 ∷ []) $ drop ! $ at_once ! $ done !
