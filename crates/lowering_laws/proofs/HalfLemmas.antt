-- The two halves: each feasible run has its run of the machine, and each run of the machine its feasible run.
use Rattle.std.proofs.Common.{◌≡◌, ℕ, ◌+◌, ◌<◌, Bool, true, false, List, [], ◌∷◌, ◌++◌, length, refl, sym, ap, ◌∙◌, subst, arith}
use Rattle.std.specs.Prelude.{Option, None, Some, slice_get, option_map}
use Rattle.std.proofs.lemmas.Option.{same_Some, slice_get_within}
use Rattle.semiring_laws.specs.Semiring.{Operations}
use Rattle.pushdown_rules.specs.declared.rule.Rule.{Rule}
use Rattle.pushdown_rules.specs.Configuration.{Configuration, at_stack}
use Rattle.pushdown_rules.specs.Pushdown.{Pushdown}
use Rattle.pushdown_rules.specs.Firing.{next_of, Run}
use Rattle.pushdown_rules.specs.RunValue.{Frame as SavedFrame}
use Rattle.pushdown_rules.specs.Values.{rules_of}
use Rattle.pushdown_rules.proofs.CallerLemmas.{fired, fires, rules_cons}
use Rattle.boolean_programs.specs.Programs.{Program}
use Rattle.boolean_programs.specs.Lines.{Instruction, code, line_numbers, instruction_at}
use Rattle.boolean_programs.specs.Lists.{place_in}
use Rattle.boolean_machine.specs.Machine.{Frame, State, Acts, action, TopMoves, Moves, Follow}
use Rattle.boolean_machine.specs.Lawful.{IsLawful}
use Rattle.setting_runs.specs.Relations.{Setting}
use Rattle.relation_weights.specs.declared.rel_map.Slot.{Slot}
use Rattle.lowering_laws.specs.Lowering.{variables, assert_lines, IsLowering}
use Rattle.setting_runs.proofs.CallerLemmas.{Goes, Lead}
use Rattle.lowering_laws.proofs.PlanLemmas.{rule_of, place_of_line, line_at_place}
use Rattle.lowering_laws.proofs.MatchLemmas.{Top, Waits, MatchesFrames, Matches}
use Rattle.lowering_laws.proofs.StepLemmas.{Here, move_act, follow_act, lawful_here}

module _ {S W Map : Type 0} (s : Operations W Map) {relates : W → Setting → Setting → Bool} {slots : Map → ℕ → Slot} {p : Program} {system : Pushdown S W Map} (low : IsLowering relates slots p system) (lawful : IsLawful p) where
  abbrev n : ℕ
  n = variables p

  abbrev by_kind : ℕ → Bool → Option ℕ
  by_kind line b = elim b [ false ↦ place_in (line_numbers (code p)) line | true ↦ option_map (λ k. length (code p) + k) (place_in (assert_lines p) line) ]

  past_code : (o : Option ℕ) (k : ℕ) → option_map (λ j. length (code p) + j) o ≡ Some k → (j : ℕ) × (k ≡ length (code p) + j)
  past_code None k e = cc
  past_code (Some j) k e = (j, sym (same_Some (length (code p) + j) k e))

  -- what stands at a top frame with the symbol of a body line
  here_at : (gs : List Bool) (f : Frame) (fs : List Frame) (rest : List ℕ) (ms : List (SavedFrame Setting Map)) (z : Setting) (k : ℕ) (i : Instruction) → length gs ≡ p.globals
      → (procedure : ℕ) (g : ℕ) → Top p gs f g z procedure → Waits p slots procedure fs rest ms → slice_get (code p) k ≡ Some i → f.point.failed ≡ false → instruction_at p f.point.line ≡ Some i → Here s low lawful gs f fs rest ms z k i
  here_at gs f fs rest ms z k i globals procedure g top waits there whole at =
      let same : top.point.instruction ≡ i = same_Some top.point.instruction i (sym top.point.there ∙ at) in
      let owner : procedure ≡ i.procedure = sym top.point.owner ∙ ap (λ (x : Instruction). x.procedure) same in
      record {
        globals = globals;
        there = there;
        whole = whole;
        at = at;
        owner = top.owner;
        found = ap (slice_get p.procs) (sym owner) ∙ top.found;
        wide = top.wide;
        shows = top.shows;
        waits = subst (λ q. Waits p slots q fs rest ms) owner waits;
      }

  -- a body line's symbol belongs to no failure
  line_symbol : (point_line : ℕ) (failed : Bool) (k : ℕ) (i : Instruction) → by_kind point_line failed ≡ Some k → slice_get (code p) k ≡ Some i → (failed ≡ false) × (instruction_at p point_line ≡ Some i)
  line_symbol line false k i e there = (refl, line_at_place p line k i e there)
  line_symbol line true k i e there =
      let past = past_code (place_in (assert_lines p) line) k e in
      let within : k < length (code p) = slice_get_within (code p) k i there in
      let over : k ≡ length (code p) + past.0 = past.1 in
      absurd (omega arith)

  -- ---- a rule, and the move that it stands for

  top_moves : (gs : List Bool) (f : Frame) (fs : List Frame) (to : State) (i : Instruction) → f.point.failed ≡ false → instruction_at p f.point.line ≡ Some i → Acts p i gs f fs to (action p i) → TopMoves p gs f fs to
  top_moves gs f fs to i whole at acts =
      let Way : Bool → Type 0 = λ b. elim b [
        | true ↦ ⊥
        | false ↦ (j : Instruction) × (instruction_at p f.point.line ≡ Some j) × Acts p j gs f fs to (action p j)
      ] in
      let way : Way false = (i, at, acts) in
      subst Way (sym whole) way

  pub moves_of_rule : (gs : List Bool) (frames : List Frame) → length gs ≡ p.globals → (rest : List ℕ) (ms : List (SavedFrame Setting Map)) (z : Setting) (number : ℕ) (r : Rule S W Map) → slice_get system.rules number ≡ Some r
      → MatchesFrames p slots gs frames (r.symbol ∷ rest) ms z → (ms' : List (SavedFrame Setting Map)) (z' : Setting) → Goes s n relates slots r r.right ms z ms' z'
      → (to : State) × Moves p (record { globals = gs; frames = frames }) to × Matches p slots to (r.right ++ rest) ms' z'
  moves_of_rule gs [] globals rest ms z number r there matches ms' z' goes = absurd matches
  moves_of_rule gs (f ∷ fs) globals rest ms z number r there matches ms' z' goes =
      let top = matches.1 in
      let by = rule_of low number r there in
      let line = line_symbol f.point.line f.point.failed r.symbol by.instruction top.symbol (ap (slice_get (code p)) by.symbol ∙ by.there) in
      let here = here_at gs f fs rest ms z by.number by.instruction globals matches.0 r.symbol top matches.2 by.there line.0 line.1 in
      let moved = move_act s low lawful gs f fs rest ms z by.number by.instruction here (action p by.instruction) refl (lawful_here s low lawful gs f fs rest ms z by.number by.instruction here)
      by.which by.planned by.among r by.lowered ms' z' goes in
      (moved.to, top_moves gs f fs moved.to by.instruction line.0 line.1 moved.acts, moved.matches)

  -- ---- a move, and the rule that stands for it

  pub record RuleFor (stack : List ℕ) (ms : List (SavedFrame Setting Map)) (z : Setting) (to : State) : Type 0 where
    pub number : ℕ
    pub rule : Rule S W Map
    pub rest : List ℕ
    pub there : slice_get system.rules number ≡ Some rule
    pub on_top : stack ≡ rule.symbol ∷ rest
    pub from : rule.control ≡ 0
    pub into : rule.to ≡ 0
    pub frames : List (SavedFrame Setting Map)
    pub setting : Setting
    pub goes : Goes s n relates slots rule rule.right ms z frames setting
    pub matches : Matches p slots to (rule.right ++ rest) frames setting

  abbrev Way : List Bool → Frame → List Frame → State → Bool → Type 0
  Way gs f fs to b = elim b [
    | true ↦ ⊥
    | false ↦ (j : Instruction) × (instruction_at p f.point.line ≡ Some j) × Acts p j gs f fs to (action p j)
  ]

  rule_of_top : (gs : List Bool) (f : Frame) (fs : List Frame) → length gs ≡ p.globals → (g : ℕ) (rest : List ℕ) (ms : List (SavedFrame Setting Map)) (z : Setting)
      → (procedure : ℕ) → Top p gs f g z procedure → Waits p slots procedure fs rest ms → (to : State) → (failed : Bool) → f.point.failed ≡ failed → Way gs f fs to failed → RuleFor (g ∷ rest) ms z to
  rule_of_top gs f fs globals g rest ms z procedure top waits to true is way = absurd way
  rule_of_top gs f fs globals g rest ms z procedure top waits to false is way =
      let i = way.0 in
      let place = place_of_line p f.point.line i way.1 in
      let number : Some place.0 ≡ Some g = sym place.1 ∙ ap (by_kind f.point.line) (sym is) ∙ top.symbol in
      let same : place.0 ≡ g = same_Some place.0 g number in
      let there : slice_get (code p) g ≡ Some i = ap (slice_get (code p)) (sym same) ∙ place.2 in
      let here = here_at gs f fs rest ms z g i globals procedure g top waits there is way.1 in
      let follows = follow_act s low lawful gs f fs rest ms z g i here (action p i) refl (lawful_here s low lawful gs f fs rest ms z g i here) to way.2 in
      record {
        number = follows.number;
        rule = follows.rule;
        rest = rest;
        there = follows.there;
        on_top = ap (λ h. h ∷ rest) (sym follows.head);
        from = follows.from;
        into = follows.into;
        frames = follows.frames;
        setting = follows.setting;
        goes = follows.goes;
        matches = follows.matches;
      }

  rule_of_move : (gs : List Bool) (frames : List Frame) → length gs ≡ p.globals → (stack : List ℕ) (ms : List (SavedFrame Setting Map)) (z : Setting) → MatchesFrames p slots gs frames stack ms z
      → (to : State) → Moves p (record { globals = gs; frames = frames }) to → RuleFor stack ms z to
  rule_of_move gs [] globals stack ms z matches to moves = absurd moves
  rule_of_move gs (f ∷ fs) globals [] ms z matches to moves = absurd matches
  rule_of_move gs (f ∷ fs) globals (g ∷ rest) ms z matches to moves = rule_of_top gs f fs globals g rest ms z matches.0 matches.1 matches.2 to f.point.failed refl moves

  -- ---- whole runs

  -- the last of some states
  abbrev pub last_of : State → List State → State
  last_of from [] = from
  last_of from (to ∷ ts) = last_of to ts

  -- states that follow one another beside a run: each matches the configuration there
  abbrev pub Beside : List ℕ → Configuration → List State → Type 0
  Beside [] c ts = ts ≡ []
  Beside (k ∷ run) c [] = ⊥
  Beside (k ∷ run) c (t ∷ ts) = (mid : Configuration) × (next_of system k c ≡ Some mid) × ((ms : List (SavedFrame Setting Map)) × (z : Setting) × Matches p slots t mid.stack ms z) × Beside run mid ts

  -- a run whose settings lead on is a run of the machine
  pub run_follows : (run : List ℕ) (c d : Configuration) → Run system c run d → (state : State) (ms : List (SavedFrame Setting Map)) (z : Setting) → Matches p slots state c.stack ms z
      → (ms' : List (SavedFrame Setting Map)) (z' : Setting) → Lead s n relates slots (rules_of s system run) ms z ms' z'
      → (ts : List State) × Follow p state ts × Beside run c ts × Matches p slots (last_of state ts) d.stack ms' z'
  run_follows [] c d same state ms z matches ms' z' lead =
      let at : Matches p slots state d.stack ms z = subst (λ (x : Configuration). Matches p slots state x.stack ms z) same matches in
      ([], tt, refl, subst (λ y. Matches p slots state d.stack ms' y) lead.1 (subst (λ hs. Matches p slots state d.stack hs z) lead.0 at))
  run_follows (k ∷ run) c d goes state ms z matches ms' z' lead =
      let f = fired system k c goes.0 goes.1 in
      let r = f.rule in
      let first : Lead s n relates slots (r ∷ rules_of s system run) ms z ms' z' = subst (λ rs. Lead s n relates slots rs ms z ms' z') (rules_cons s system k r run f.there) lead in
      let head : c.stack ≡ r.symbol ∷ f.rest = ap (λ (x : Configuration). x.stack) f.head in
      let at : MatchesFrames p slots state.globals state.frames (r.symbol ∷ f.rest) ms z = subst (λ st. MatchesFrames p slots state.globals state.frames st ms z) head matches.frames in
      let moved = moves_of_rule state.globals state.frames matches.globals f.rest ms z k r f.there at first.0 first.1 first.2 in
      let mid : Matches p slots moved.0 goes.0.stack first.0 first.1 = subst (λ st. Matches p slots moved.0 st first.0 first.1) (sym (ap (λ (x : Configuration). x.stack) f.after)) moved.2 in
      let later = run_follows run goes.0 d goes.2 moved.0 first.0 first.1 mid ms' z' first.3 in
      (moved.0 ∷ later.0, (moved.1, later.1), (goes.0, goes.1, (first.0, first.1, mid), later.2), later.3)

  -- states that follow one another have a run whose settings lead on
  pub follow_runs : (ts : List State) (state : State) → Follow p state ts → (stack : List ℕ) (ms : List (SavedFrame Setting Map)) (z : Setting) → Matches p slots state stack ms z
      → (run : List ℕ) × (below : List ℕ) × Run system (at_stack 0 stack) run (at_stack 0 below)
      × (ms' : List (SavedFrame Setting Map)) × (z' : Setting) × Lead s n relates slots (rules_of s system run) ms z ms' z' × Matches p slots (last_of state ts) below ms' z'
  follow_runs [] state follow stack ms z matches = ([], stack, refl, ms, z, (refl, refl), matches)
  follow_runs (t ∷ ts) state follow stack ms z matches =
      let rule = rule_of_move state.globals state.frames matches.globals stack ms z matches.frames t follow.0 in
      let r = rule.rule in
      let later = follow_runs ts t follow.1 (r.right ++ rule.rest) rule.frames rule.setting rule.matches in
      let at : ℕ → List ℕ → Configuration = λ n st. record { control = n; stack = st } in
      let fire = fires system rule.number r rule.there rule.rest in
      let step : next_of system rule.number (at_stack 0 stack) ≡ Some (at_stack 0 (r.right ++ rule.rest)) =
      ap (λ st. next_of system rule.number (at 0 st)) rule.on_top
      ∙ ap (λ m. next_of system rule.number (at m (r.symbol ∷ rule.rest))) (sym rule.from)
      ∙ fire ∙ ap (λ m. Some (at m (r.right ++ rule.rest))) rule.into in
      let lead : Lead s n relates slots (r ∷ rules_of s system later.0) ms z later.3 later.4 = (rule.frames, rule.setting, rule.goes, later.5) in (
        rule.number ∷ later.0,
        later.1,
        (at_stack 0 (r.right ++ rule.rest), step, later.2),
        later.3,
        later.4,
        subst (λ rs. Lead s n relates slots rs ms z later.3 later.4) (sym (rules_cons s system rule.number r later.0 rule.there)) lead,
        later.6,
      )
