-- The frames of stacks and settings.
use Rattle.std.proofs.Common.{◌≡◌, ℕ, zero, suc, ◌+◌, ◌-◌, ◌<◌, ◌≤◌, List, [], ◌∷◌, ◌++◌, length, map, drop, get_or, refl, sym, ap, ap₂, ◌∙◌, append_assoc, arith, ◌⊎◌, inl, inr}
use Rattle.std.specs.Prelude.{Some, slice_get}
use Rattle.boolean_programs.specs.Programs.{Program}
use Rattle.boolean_meaning.specs.declared.state.Frame.{Frame as HeldFrame}
use Rattle.boolean_meaning.specs.HeldStates.{held_frame}
use Rattle.setting_runs.specs.Relations.{Setting}
use Rattle.lowering_laws.specs.States.{frame_of, point_at, waiting_of, state_of}

pub drop_at : {X : Type 0} (xs : List X) (k : ℕ) (x : X) → slice_get xs k ≡ Some x → drop k xs ≡ x ∷ drop (k + 1) xs
drop_at xs k x at = here xs k x at ∙ ap (λ i. x ∷ drop i xs) (let e : suc k ≡ k + 1 = omega arith in e)
  where
    here : {X : Type 0} (xs : List X) (k : ℕ) (x : X) → slice_get xs k ≡ Some x → drop k xs ≡ x ∷ drop (suc k) xs
    here [] k x at = cc
    here (y ∷ xs) zero x at = ap (λ z. z ∷ xs) (let f : y ≡ x = cc in f)
    here (y ∷ xs) (suc k) x at = here xs k x at

pub past : {X : Type 0} (xs : List X) (k : ℕ) → length xs ≤ k → drop k xs ≡ []
past [] zero h = refl
past [] (suc k) h = refl
past (x ∷ xs) zero h = absurd (omega arith)
past (x ∷ xs) (suc k) h = past xs k (omega arith)

module _ (p : Program) (stack : List ℕ) (ys : List Setting) where
  abbrev pub waiting_from : ℕ → List HeldFrame
  waiting_from k = map held_frame (waiting_of p (drop (k + 1) stack) (drop k ys))

  pub waiting_next : (k g : ℕ) (y : Setting) → slice_get stack (k + 1) ≡ Some g → slice_get ys k ≡ Some y → (frames more : List HeldFrame) → more ≡ frames ++ held_frame (frame_of p (point_at p (g - 1)) y) ∷ []
      → more ++ waiting_from (k + 1) ≡ frames ++ waiting_from k
  waiting_next k g y at there frames more e =
      let f = held_frame (frame_of p (point_at p (g - 1)) y) in
      let here : waiting_from k ≡ f ∷ waiting_from (k + 1) =
      ap₂ (λ (a : List ℕ) (b : List Setting). map held_frame (waiting_of p a b)) (drop_at stack (k + 1) g at) (drop_at ys k y there) in
      ap (λ fs. fs ++ waiting_from (k + 1)) e
      ∙ append_assoc frames (f ∷ []) (waiting_from (k + 1))
      ∙ ap (λ fs. frames ++ fs) (sym here)

  -- past the shorter of the two
  pub waiting_end : (k : ℕ) → (length ys ≤ k) ⊎ (length stack ≤ k + 1) → waiting_from k ≡ []
  waiting_end k (inl short) = by_stack (drop (k + 1) stack)
    where
      by_stack : (rest : List ℕ) → map held_frame (waiting_of p rest (drop k ys)) ≡ []
      by_stack [] = refl
      by_stack (g ∷ rest) = ap (λ (zs : List Setting). map held_frame (waiting_of p (g ∷ rest) zs)) (past ys k short)
  waiting_end k (inr short) = ap (λ rest. map held_frame (waiting_of p rest (drop k ys))) (past stack (k + 1) short)

pub no_frames : (p : Program) (stack : List ℕ) (ys : List Setting) (z : Setting) → length stack ≡ 0 → map held_frame (state_of p stack ys z).frames ≡ []
no_frames p [] ys z e = refl
no_frames p (g ∷ stack) ys z e = absurd (omega arith)

pub some_frames : (p : Program) (stack : List ℕ) (ys : List Setting) (z : Setting) → 0 < length stack
    → map held_frame (state_of p stack ys z).frames ≡ held_frame (frame_of p (point_at p (get_or stack 0 0)) z) ∷ map held_frame (waiting_of p (drop 1 stack) ys)
some_frames p [] ys z some = absurd (omega arith)
some_frames p (g ∷ stack) ys z some = refl
