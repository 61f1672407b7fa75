-- The moments of a run are states of a run of the machine.
use Rattle.std.proofs.Common.{◌≡◌, ◌≢◌, ℕ, Bool, List, [], ◌∷◌, ◌++◌, refl, sym, ap, ◌∙◌, subst}
use Rattle.std.specs.Prelude.{Option, None, Some, slice_get}
use Rattle.semiring_laws.specs.Semiring.{Operations, IsSemiring}
use Rattle.pushdown_rules.specs.declared.rule.Rule.{Rule}
use Rattle.pushdown_rules.specs.Configuration.{Configuration, at_stack}
use Rattle.pushdown_rules.specs.Pushdown.{Pushdown, IsSystem}
use Rattle.pushdown_rules.specs.Firing.{next_of, Run}
use Rattle.pushdown_rules.specs.RunValue.{Frame as SavedFrame, Machine}
use Rattle.pushdown_rules.specs.Values.{rules_of, value_of}
use Rattle.pushdown_rules.proofs.CallerLemmas.{fired, rules_cons, rules_fit}
use Rattle.boolean_programs.specs.Programs.{Program}
use Rattle.boolean_machine.specs.Machine.{State, Follow, IsProgramRun}
use Rattle.boolean_machine.specs.Lawful.{IsLawful}
use Rattle.boolean_programs.specs.Structure.{IsRead}
use Rattle.setting_runs.specs.Relations.{Setting, MeansRelations}
use Rattle.relation_weights.specs.declared.rel_map.Slot.{Slot}
use Rattle.lowering_laws.specs.Lowering.{variables, symbol, IsLowering}
use Rattle.lowering_laws.specs.Queries.{entry_point, IsTrace}
use Rattle.setting_runs.specs.Settings.{Lead, AreMoments}
use Rattle.lowering_laws.specs.States.{state_at, states_along}
use Rattle.setting_runs.proofs.CallerLemmas.{feasible_leads}
use Rattle.lowering_laws.proofs.StateLemmas.{state_matched}
use Rattle.lowering_laws.proofs.SymbolLemmas.{stack_matched}
use Rattle.lowering_laws.proofs.MatchLemmas.{MatchesFrames, Matches}
use Rattle.lowering_laws.proofs.HalfLemmas.{moves_of_rule}
use Rattle.lowering_laws.proofs.ReachingLemmas.{starts_at}

abbrev moment : {Map : Type 0} → List (SavedFrame Setting Map) → Setting → Machine Setting Map
moment gs z = record { accumulator = z; frames = gs }

module _ {S W Map : Type 0} (s : Operations W Map) (n : ℕ) (relates : W → Setting → Setting → Bool) (slots : Map → ℕ → Slot) where
  -- settings that lead along rules have their moments
  pub moments_of : (rs : List (Rule S W Map)) (gs : List (SavedFrame Setting Map)) (z : Setting) (gs' : List (SavedFrame Setting Map)) (z' : Setting) → Lead s n relates slots rs gs z gs' z'
      → (later : List (Machine Setting Map)) × AreMoments s n relates slots rs (moment gs z) later
  moments_of [] gs z gs' z' lead = ([], refl)
  moments_of (r ∷ rs) gs z gs' z' lead =
      let more = moments_of rs lead.0 lead.1 gs' z' lead.3 in
      (moment lead.0 lead.1 ∷ more.0, (lead.2, more.1))

module _ {S W Map : Type 0} (s : Operations W Map) {relates : W → Setting → Setting → Bool} {slots : Map → ℕ → Slot} {p : Program} {system : Pushdown S W Map} (low : IsLowering relates slots p system) (read : IsRead p) (lawful : IsLawful p) where
  -- the states behind the first one
  pub record Along (run : List ℕ) (c : Configuration) (state : State) (m : Machine Setting Map) (later : List (Machine Setting Map)) : Type 0 where
    pub states : List State
    pub follow : Follow p state states
    pub are : states_along p system c run m later ≡ state ∷ states
    pub trace : IsTrace p system c run (state ∷ states)

  abbrev Goes_on : List ℕ → Configuration → Type 0
  Goes_on run mid = (t : State) (m : Machine Setting Map) (later : List (Machine Setting Map)) → Matches p slots t mid.stack m.frames m.accumulator
      → AreMoments s (variables p) relates slots (rules_of s system run) m later → Along run mid t m later

  step_along : (k : ℕ) (run : List ℕ) (c mid : Configuration) → next_of system k c ≡ Some mid → (r : Rule S W Map) (rest : List ℕ) → slice_get system.rules k ≡ Some r → c.stack ≡ r.symbol ∷ rest → mid.stack ≡ r.right ++ rest
      → (state : State) (m : Machine Setting Map) (later : List (Machine Setting Map)) → Matches p slots state c.stack m.frames m.accumulator
      → AreMoments s (variables p) relates slots (r ∷ rules_of s system run) m later → Goes_on run mid → Along (k ∷ run) c state m later
  step_along k run c mid next r rest there head after state m [] matches moments more = absurd moments
  step_along k run c mid next r rest there head after state m (m' ∷ later) matches moments more =
      let at : MatchesFrames p slots state.globals state.frames (r.symbol ∷ rest) m.frames m.accumulator = subst (λ st. MatchesFrames p slots state.globals state.frames st m.frames m.accumulator) head matches.frames in
      let moved = moves_of_rule s low lawful state.globals state.frames matches.globals rest m.frames m.accumulator k r there at m'.frames m'.accumulator moments.0 in
      let on = more moved.0 m' later (subst (λ st. Matches p slots moved.0 st m'.frames m'.accumulator) (sym after) moved.2) moments.1 in
      let first : state_at p c.stack m ≡ state = sym (state_matched slots p read state c.stack m.frames m.accumulator matches) in
      let tail : Option Configuration → List State = λ o. elim o [ None ↦ [] | Some e ↦ states_along p system e run m' later ] in
      record {
        states = moved.0 ∷ on.states;
        follow = (moved.1, on.follow);
        are = ap (λ xs. state_at p c.stack m ∷ xs) (ap tail next ∙ on.are) ∙ ap (λ x. x ∷ (moved.0 ∷ on.states)) first;
        trace = (state, moved.0 ∷ on.states, refl, stack_matched p slots state c.stack m.frames m.accumulator matches, mid, next, on.trace);
      }

  pub along : (run : List ℕ) (c d : Configuration) → Run system c run d → (state : State) (m : Machine Setting Map) (later : List (Machine Setting Map)) → Matches p slots state c.stack m.frames m.accumulator
      → AreMoments s (variables p) relates slots (rules_of s system run) m later → Along run c state m later
  along [] c d goes state m later matches moments =
      record {
        states = [];
        follow = tt;
        are = ap (λ (x : State). x ∷ []) (sym (state_matched slots p read state c.stack m.frames m.accumulator matches));
        trace = (state, refl, stack_matched p slots state c.stack m.frames m.accumulator matches);
      }
  along (k ∷ run) c d goes state m later matches moments =
      let f = fired system k c goes.0 goes.1 in
      step_along k run c goes.0 goes.1 f.rule f.rest f.there (ap (λ (x : Configuration). x.stack) f.head) (ap (λ (x : Configuration). x.stack) f.after) state m later matches
      (subst (λ rs. AreMoments s (variables p) relates slots rs m later) (rules_cons s system k f.rule run f.there) moments)
      (λ t m' more matches' rest. along run goes.0 d goes.2 t m' more matches' rest)

module _ {S W Map : Type 0} {operations : S → Operations W Map} {relates : W → Setting → Setting → Bool} {slots : Map → ℕ → Slot} {p : Program} {system : Pushdown S W Map}
    (low : IsLowering relates slots p system) (read : IsRead p) (lawful : IsLawful p) (valid : IsSystem operations system) (laws : IsSemiring (operations system.semiring)) (means : MeansRelations (operations system.semiring) (variables p) relates slots) where
  abbrev first : Configuration
  first = at_stack 0 (symbol p (entry_point p) ∷ [])

  pub moments_run : (run : List ℕ) (d : Configuration) → Run system first run d → (m : Machine Setting Map) (later : List (Machine Setting Map)) → m.frames ≡ []
      → AreMoments (operations system.semiring) (variables p) relates slots (rules_of (operations system.semiring) system run) m later
      → IsProgramRun p (states_along p system first run m later) × IsTrace p system first run (states_along p system first run m later)
  moments_run run d goes m later none moments =
      let start = starts_at low lawful valid laws means m.accumulator in
      let matches : Matches p slots start.state first.stack m.frames m.accumulator = subst (λ gs. Matches p slots start.state first.stack gs m.accumulator) (sym none) start.matches in
      let found = along (operations system.semiring) low read lawful run first d goes start.state m later matches moments in
      (subst (IsProgramRun p) (sym found.are) (start.start, found.follow), subst (IsTrace p system first run) (sym found.are) found.trace)

  pub moments_found : (run : List ℕ) → value_of (operations system.semiring) system run ≢ (operations system.semiring).zero
      → (m : Machine Setting Map) × (later : List (Machine Setting Map)) × (m.frames ≡ []) × AreMoments (operations system.semiring) (variables p) relates slots (rules_of (operations system.semiring) system run) m later
  moments_found run feasible =
      let rs = rules_of (operations system.semiring) system run in
      let found = feasible_leads laws means rs (rules_fit valid run) feasible in
      let moments = moments_of (operations system.semiring) (variables p) relates slots rs [] found.0 found.1 found.2 found.3 in
      (moment [] found.0, moments.0, refl, moments.1)
