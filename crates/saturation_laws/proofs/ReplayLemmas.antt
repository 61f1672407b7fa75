-- Lists of events, one after another, and the hands that they leave.
use Rattle.std.proofs.Common.{◌≡◌, ℕ, List, [], ◌∷◌, ◌++◌, refl, sym, ap, ◌∙◌}
use Rattle.std.specs.Prelude.{Option, None, Some, ◌≢◌, option_map, option_and_then}
use Rattle.std.specs.List.{AllByRecursion}
use Rattle.std.proofs.lemmas.Bool.{cond_both}
use Rattle.std.proofs.lemmas.List.{get_or-set_other}
use Rattle.std.proofs.lemmas.List.Elements.{recursion_from_All}
use Rattle.std.proofs.lemmas.Option.{option_and_then_some}
use Rattle.semiring_laws.specs.Semiring.{Operations}
use Rattle.saturation_laws.specs.declared.event.Event.{Event}
use Rattle.saturation_laws.specs.declared.event.Event.TheVariants.{Take, Settle, GiveBack}
use Rattle.saturation_laws.specs.declared.holding.Holding.{Holding}
use Rattle.saturation_laws.specs.declared.job.Job.{Job}
use Rattle.saturation_laws.specs.Jobs.{Tables}
use Rattle.saturation_laws.specs.States.{CoreState, Change, AreOfOthers, seat_of, hand_at, weight_at, lower_state, apply, change_of, apply_jobs, can_take, take, settle, give_back, step, replay}

module _ {S W Map : Type 0} where
  by_hand : (o : Option (Holding S W Map)) (f : Holding S W Map → CoreState S W Map) (new : CoreState S W Map) → option_map f o ≡ Some new → (h : Holding S W Map) × (f h ≡ new)
  by_hand None f new e = cc
  by_hand (Some h) f new e = (h, cc)

module _ {S W Map : Type 0} (s : Operations W Map) (d : Tables S W Map) where
  pub replay_append : (es fs : List Event) (st : CoreState S W Map) → replay s d st (es ++ fs) ≡ option_and_then (λ mid. replay s d mid fs) (replay s d st es)
  replay_append [] fs st = refl
  replay_append (e ∷ es) fs st =
      elim (step s d st e) as (λ o. option_and_then (λ m. replay s d m (es ++ fs)) o ≡ option_and_then (λ mid. replay s d mid fs) (option_and_then (λ m. replay s d m es) o)) [
        | None ↦ refl
        | Some mid ↦ replay_append es fs mid
      ]

  apply_leaves : (c : Change W) (st : CoreState S W Map) → (apply s c st).hands ≡ st.hands
  apply_leaves c st =
      let old = weight_at s c.goal st.transitions in
      let P : CoreState S W Map → Type 0 = λ m. m.hands ≡ st.hands in
      cond_both (s.same (s.combine old c.weight) old) st (lower_state s c (s.combine old c.weight) st) P (λ _. refl) (λ _. refl)

  jobs_leave : (js : List (Job S W Map)) (st : CoreState S W Map) → (apply_jobs s d js st).hands ≡ st.hands
  jobs_leave [] st = refl
  jobs_leave (j ∷ js) st = jobs_leave js (apply s (change_of s d j) st) ∙ apply_leaves (change_of s d j) st

  -- one event of another seat
  pub step_leaves : (e : Event) (st new : CoreState S W Map) → step s d st e ≡ Some new → (k : ℕ) → (k ≡ seat_of e → ⊥) → hand_at k new.hands ≡ hand_at k st.hands
  step_leaves (Take seat x) st new legal k other =
      let P : Option (CoreState S W Map) → Type 0 = λ i. i ≡ Some new → hand_at k new.hands ≡ hand_at k st.hands in
      cond_both (can_take s d seat x st) (Some (take s d seat x st)) None P
      (λ can same.
      let e : take s d seat x st ≡ new = cc in
      ap (λ (m : CoreState S W Map). hand_at k m.hands) (sym e) ∙ get_or-set_other st.hands seat k _ None other)
      (λ cannot none. cc) legal
  step_leaves (Settle seat) st new legal k other =
      let h = by_hand (hand_at seat st.hands) (λ g. settle s d seat g st) new legal in
      ap (λ (m : CoreState S W Map). hand_at k m.hands) (sym h.1) ∙ get_or-set_other (apply_jobs s d h.0.jobs st).hands seat k None None other
      ∙ ap (hand_at k) (jobs_leave h.0.jobs st)
  step_leaves (GiveBack seat) st new legal k other =
      let h = by_hand (hand_at seat st.hands) (λ g. give_back s d seat g st) new legal in
      ap (λ (m : CoreState S W Map). hand_at k m.hands) (sym h.1) ∙ get_or-set_other st.hands seat k None None other

  replay_leaves : (es : List Event) (st new : CoreState S W Map) (k : ℕ) → replay s d st es ≡ Some new → AllByRecursion (λ e. k ≢ seat_of e) es → hand_at k new.hands ≡ hand_at k st.hands
  replay_leaves [] st new k same others = let e : st ≡ new = cc in ap (λ (m : CoreState S W Map). hand_at k m.hands) (sym e)
  replay_leaves (e ∷ es) st new k legal others =
      option_and_then_some (λ m. replay s d m es) (step s d st e) new legal (λ mid one rest. replay_leaves es mid new k rest others.1 ∙ step_leaves e st mid one k others.0)

  -- and of all these events
  pub others_leave : (es : List Event) (st new : CoreState S W Map) (k : ℕ) → replay s d st es ≡ Some new → AreOfOthers k es → hand_at k new.hands ≡ hand_at k st.hands
  others_leave es st new k legal others = replay_leaves es st new k legal (recursion_from_All (λ e. k ≢ seat_of e) es others)
