-- A point is reached exactly where some run from main's first line to it is feasible.
use Rattle.std.proofs.Common.{◌≡◌, ◌≢◌, ℕ, zero, suc, ◌+◌, Bool, false, List, [], ◌∷◌, length, refl, sym, ap, ◌∙◌, subst, arith}
use Rattle.std.specs.Prelude.{Some, slice_get, unwrap_or, IsTrue}
use Rattle.std.proofs.lemmas.Option.{same_Some}
use Rattle.semiring_laws.specs.Semiring.{Operations, IsSemiring}
use Rattle.pushdown_rules.specs.Configuration.{Configuration, at_stack}
use Rattle.pushdown_rules.specs.Pushdown.{Pushdown, IsSystem}
use Rattle.pushdown_rules.specs.Firing.{Run}
use Rattle.pushdown_rules.specs.RunValue.{Frame as SavedFrame}
use Rattle.pushdown_rules.specs.Values.{rules_of, value_of}
use Rattle.pushdown_rules.specs.Answers.{HasFeasibleRun}
use Rattle.pushdown_rules.proofs.CallerLemmas.{rules_fit}
use Rattle.config_patterns.specs.Membership.{has_member}
use Rattle.boolean_programs.specs.Programs.{Procedure, Program, width}
use Rattle.boolean_programs.specs.Lines.{first_line}
use Rattle.boolean_programs.specs.declared.point.Point.{Point}
use Rattle.boolean_machine.specs.Machine.{at_line, Frame, State, bits, IsStart, Follow, IsProgramRun, top_of, IsReached}
use Rattle.boolean_machine.specs.Lawful.{IsLawful}
use Rattle.setting_runs.specs.Relations.{Setting, MeansRelations}
use Rattle.relation_weights.specs.declared.rel_map.Slot.{Slot}
use Rattle.lowering_laws.specs.Lowering.{variables, slot_of, symbol_of, symbol, IsLowering}
use Rattle.program_laws.specs.ReadPrograms.{IsPoint}
use Rattle.lowering_laws.specs.Queries.{entry_point, entry_pattern, point_pattern, stack_of, IsTrace}
use Rattle.lowering_laws.proofs.NameLemmas.{Shows, overlaid, overlaid_name, shown_bits}
use Rattle.setting_runs.proofs.CallerLemmas.{feasible_leads, leads_feasible}
use Rattle.lowering_laws.proofs.PlanLemmas.{point_symbol}
use Rattle.lowering_laws.proofs.SymbolLemmas.{symbol_tells, member_of_point, point_of_member, member_of_entry, entry_of_member, waits_below, stack_matched}
use Rattle.lowering_laws.proofs.MatchLemmas.{MatchesFrames, Matches}
use Rattle.lowering_laws.proofs.HalfLemmas.{last_of, Beside, run_follows, follow_runs}

module _ {S W Map : Type 0} {operations : S → Operations W Map} {relates : W → Setting → Setting → Bool} {slots : Map → ℕ → Slot} {p : Program} {system : Pushdown S W Map}
    (low : IsLowering relates slots p system) (lawful : IsLawful p) (valid : IsSystem operations system) (laws : IsSemiring (operations system.semiring)) (means : MeansRelations (operations system.semiring) (variables p) relates slots) where
  abbrev s : Operations W Map
  s = operations system.semiring

  abbrev first : List ℕ
  first = symbol p (entry_point p) ∷ []

  entry_is : entry_point p ≡ at_line (first_line lawful.main.body)
  entry_is = ap (λ (q : Procedure). at_line (first_line q.body)) (ap (λ o. unwrap_or o (record { params = 0; locals = 0; returns = 0; body = [] })) lawful.found)

  -- ---- starting states

  begins : (gs ls : List Bool) (z : Setting) → length gs ≡ p.globals → length ls ≡ width lawful.main → Shows p z gs ls
      → Matches p slots (record { globals = gs; frames = record { point = at_line (first_line lawful.main.body); locals = ls } ∷ [] }) first [] z
  begins gs ls z globals locals shows =
      let at = at_line (first_line lawful.main.body) in
      record {
        globals = globals;
        frames = (
          p.main,
          record {
            point = lawful.begins;
            symbol = point_symbol p p.main at lawful.begins ∙ ap (λ x. Some (symbol p x)) (sym entry_is);
            owner = lawful.main;
            found = lawful.found;
            wide = locals;
            shows = shows;
          },
          tt,
        );
      }

  -- the starting state of a setting
  pub record Starts (z : Setting) : Type 0 where
    pub state : State
    pub start : IsStart p state
    pub matches : Matches p slots state first [] z

  pub starts_at : (z : Setting) → Starts z
  starts_at z =
      let new = shown_bits p.globals (width lawful.main) (λ k. z (slot_of p k)) in
      record {
        state = record { globals = new.globals; frames = record { point = at_line (first_line lawful.main.body); locals = new.locals } ∷ [] };
        start = record { main = lawful.main; found = lawful.found; locals = new.locals; globals_are = new.globals_are; locals_are = new.locals_are; frames_are = refl };
        matches = begins new.globals new.locals z new.globals_are new.locals_are
            (λ k h. sym (new.bits_are k (let a = new.globals_are in let b = new.locals_are in omega arith)));
      }

  -- a setting of a starting state
  setting_of : (state : State) → IsStart p state → (z : Setting) × Matches p slots state first [] z
  setting_of state start =
      let main : start.main ≡ lawful.main = same_Some start.main lawful.main (sym start.found ∙ lawful.found) in
      let wide : length start.locals ≡ width lawful.main = start.locals_are ∙ ap width main in
      let frame : ℕ → List Frame = λ l. record { point = at_line l; locals = start.locals } ∷ [] in
      let n = length state.globals + length start.locals in
      let z = overlaid p n (λ v. false) (bits state.globals start.locals) in
      let frames : state.frames ≡ frame (first_line lawful.main.body) = start.frames_are ∙ ap (λ (q : Procedure). frame (first_line q.body)) main in
      let g = start.globals_are in
      let whole = begins state.globals start.locals z start.globals_are wide (λ k h. overlaid_name p n (λ v. false) (bits state.globals start.locals) k (omega arith) h) in
      (z, record { globals = start.globals_are; frames = subst (λ fs. MatchesFrames p slots state.globals fs first [] z) (sym frames) whole.frames })

  -- ---- from a feasible run

  trace_of : (run : List ℕ) (c : Configuration) (ts : List State) (state : State) → stack_of p state ≡ c.stack → Beside s low lawful run c ts → IsTrace p system c run (state ∷ ts)
  trace_of [] c ts state at beside = (state, ap (λ (xs : List State). state ∷ xs) beside, at)
  trace_of (k ∷ run) c [] state at beside = absurd beside
  trace_of (k ∷ run) c (t ∷ ts) state at beside =
      (state, t ∷ ts, refl, at, beside.0, beside.1, trace_of run beside.0 ts t (stack_matched p slots t beside.0.stack beside.2.0 beside.2.1 beside.2.2) beside.3)

  pub record Traced (run : List ℕ) (d : Configuration) : Type 0 where
    pub state : State
    pub later : List State
    pub start : IsStart p state
    pub follow : Follow p state later
    pub trace : IsTrace p system (at_stack 0 first) run (state ∷ later)
    pub frames : List (SavedFrame Setting Map)
    pub setting : Setting
    pub matches : Matches p slots (last_of s low lawful state later) d.stack frames setting

  pub traced : (run : List ℕ) (d : Configuration) → Run system (at_stack 0 first) run d → value_of s system run ≢ s.zero → Traced run d
  traced run d goes feasible =
      let found = feasible_leads laws means (rules_of s system run) (rules_fit valid run) feasible in
      let start = starts_at found.0 in
      let follows = run_follows s low lawful run (at_stack 0 first) d goes start.state [] found.0 start.matches found.1 found.2 found.3 in
      record {
        state = start.state;
        later = follows.0;
        start = start.start;
        follow = follows.1;
        trace = trace_of run (at_stack 0 first) follows.0 start.state (stack_matched p slots start.state first [] found.0 start.matches) follows.2;
        frames = found.1;
        setting = found.2;
        matches = follows.3;
      }

  last_index : (state : State) (ts : List State) → slice_get (state ∷ ts) (length ts) ≡ Some (last_of s low lawful state ts)
  last_index state [] = refl
  last_index state (t ∷ ts) = last_index t ts

  on_top : (gs : List Bool) (frames : List Frame) (point : Point) (rest : List ℕ) (ms : List (SavedFrame Setting Map)) (z : Setting) → symbol_of p point ≡ Some (symbol p point)
      → MatchesFrames p slots gs frames (symbol p point ∷ rest) ms z → top_of (record { globals = gs; frames = frames }) ≡ Some point
  on_top gs [] point rest ms z is matches = absurd matches
  on_top gs (f ∷ fs) point rest ms z is matches = ap Some (symbol_tells p f.point point (symbol p point) matches.1.symbol is)

  pub reached : (point : Point) → IsPoint p point → HasFeasibleRun s system (has_member (entry_pattern p)) (has_member (point_pattern p point)) → IsReached p point
  reached point is_point feasible =
      let run = feasible.0 in
      let leads = feasible.1 in
      let from : leads.0 ≡ at_stack 0 first = entry_of_member p leads.0 leads.2 in
      let goes : Run system (at_stack 0 first) run leads.1 = subst (λ c. Run system c run leads.1) from leads.4 in
      let trace = traced run leads.1 goes feasible.2 in
      let last = last_of s low lawful trace.state trace.later in
      let at = point_of_member p point leads.1 leads.3 in
      let matches : MatchesFrames p slots last.globals last.frames (symbol p point ∷ at.0) trace.frames trace.setting =
      subst (λ st. MatchesFrames p slots last.globals last.frames st trace.frames trace.setting) at.1 trace.matches.frames in (
        trace.state ∷ trace.later,
        (trace.start, trace.follow),
        length trace.later,
        last,
        last_index trace.state trace.later,
        on_top last.globals last.frames point at.0 trace.frames trace.setting (point_symbol p is_point.0 point is_point.1) matches,
      )

  -- ---- from a run of the machine

  follow_to : (ts : List State) (state : State) → Follow p state ts → (k : ℕ) (t : State) → slice_get (state ∷ ts) k ≡ Some t → (us : List State) × Follow p state us × (last_of s low lawful state us ≡ t)
  follow_to ts state follow zero t e = ([], tt, same_Some state t e)
  follow_to [] state follow (suc k) t e = cc
  follow_to (u ∷ ts) state follow (suc k) t e =
      let later = follow_to ts u follow.1 k t e in
      (u ∷ later.0, (follow.0, later.1), later.2)

  stack_at : (gs : List Bool) (frames : List Frame) (stack : List ℕ) (ms : List (SavedFrame Setting Map)) (z : Setting) (point : Point) → top_of (record { globals = gs; frames = frames }) ≡ Some point
      → MatchesFrames p slots gs frames stack ms z → (rest : List ℕ) × (stack ≡ symbol p point ∷ rest) × IsTrue (has_member (point_pattern p point) (at_stack 0 (symbol p point ∷ rest)))
  stack_at gs [] stack ms z point top matches = cc
  stack_at gs (f ∷ fs) [] ms z point top matches = absurd matches
  stack_at gs (f ∷ fs) (g ∷ rest) ms z point top matches =
      let is : f.point ≡ point = same_Some f.point point top in
      let same : g ≡ symbol p point = sym (ap (λ o. unwrap_or o 0) matches.1.symbol) ∙ ap (symbol p) is in
      (rest, ap (λ h. h ∷ rest) same, member_of_point p point rest (waits_below p slots matches.0 fs rest ms matches.2))

  pub feasible_of : (point : Point) → IsReached p point → HasFeasibleRun s system (has_member (entry_pattern p)) (has_member (point_pattern p point))
  feasible_of point reach = by_run reach.0 reach.1 reach.2 reach.3 reach.4 reach.5
    where
      by_run : (states : List State) → IsProgramRun p states → (k : ℕ) (t : State) → slice_get states k ≡ Some t → top_of t ≡ Some point → HasFeasibleRun s system (has_member (entry_pattern p)) (has_member (point_pattern p point))
      by_run [] is_run k t e top_is = absurd is_run
      by_run (state ∷ ts) is_run k t e top_is =
          let cut = follow_to ts state is_run.1 k t e in
          let start = setting_of state is_run.0 in
          let follows = follow_runs s low lawful cut.0 state cut.1 first [] start.0 start.1 in
          let last = last_of s low lawful state cut.0 in
          let top : top_of last ≡ Some point = ap top_of cut.2 ∙ top_is in
          let at = stack_at last.globals last.frames follows.1 follows.3 follows.4 point top follows.6.frames in
          let goes : Run system (at_stack 0 first) follows.0 (at_stack 0 (symbol p point ∷ at.0)) = subst (λ st. Run system (at_stack 0 first) follows.0 (at_stack 0 st)) at.1 follows.2 in (
            follows.0,
            (at_stack 0 first, at_stack 0 (symbol p point ∷ at.0), member_of_entry p, at.2, goes),
            leads_feasible laws means (rules_of s system follows.0) (rules_fit valid follows.0) start.0 follows.4 follows.3 follows.5,
          )
