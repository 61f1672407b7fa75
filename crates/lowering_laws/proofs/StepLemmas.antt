-- One move of the machine against one rule: each way, the settings follow.
use Rattle.std.specs.List.{range_with_len}
use Rattle.std.proofs.Common.{◌≡◌, ℕ, ◌+◌, ◌-◌, ◌<◌, Bool, false, List, [], ◌∷◌, ◌++◌, length, map, refl, sym, ap, ◌∙◌, subst, arith}
use Rattle.std.specs.Prelude.{Option, None, Some, slice_get, slice_index_or, unwrap_or, IsTrue}
use Rattle.std.proofs.lemmas.Option.{same_Some}
use Rattle.truth_tables.specs.Formulas.{Formula, is_over, renamed}
use Rattle.semiring_laws.specs.Semiring.{Operations}
use Rattle.pushdown_rules.specs.declared.rule.Rule.{Rule}
use Rattle.pushdown_rules.specs.Pushdown.{Pushdown}
use Rattle.pushdown_rules.specs.RunValue.{Frame as SavedFrame}
use Rattle.boolean_programs.specs.declared.statement.Choice.{Choice}
use Rattle.boolean_programs.specs.Programs.{Procedure, Program, width}
use Rattle.boolean_programs.specs.declared.statement.Statement.TheVariants.{Call}
use Rattle.boolean_programs.specs.Lines.{Instruction, code, instruction_at, first_line}
use Rattle.boolean_programs.specs.declared.point.Point.{Point}
use Rattle.boolean_machine.specs.Machine.{at_line, Frame, State, bits, value_at, Gets, IsEntered, Action, Jumps, Sets, Calls, Returns, action, returns_of, on_top, Ends, Acts}
use Rattle.boolean_programs.specs.Lists.{Each}
use Rattle.boolean_programs.specs.Structure.{IsValueOver}
use Rattle.boolean_machine.specs.Lawful.{IsPointOf, FitsCallee, IsLawfulAction, IsLawful}
use Rattle.boolean_machine.proofs.CallerLemmas.{calls_at_call, call_at, enough_values}
use Rattle.setting_runs.specs.Relations.{Setting}
use Rattle.relation_weights.specs.declared.rel_map.Slot.{Slot}
use Rattle.lowering_laws.specs.Lowering.{Planned, line_rules, jump_rule, step_rule, call_rule, return_rule, callee_at, variables, symbol, slot_of, first_local, in_slots, map_slot, Assumes, Assigns, Means, IsMap, IsLowered, IsLowering}
use Rattle.lowering_laws.proofs.PlaceLemmas.{get_mapped, get_map, place_below}
use Rattle.lowering_laws.proofs.NameLemmas.{Shows, slot_global, slot_local, value_shown, bit_global, bit_local}
use Rattle.setting_runs.proofs.CallerLemmas.{Goes}
use Rattle.lowering_laws.proofs.ShapeLemmas.{alone}
use Rattle.lowering_laws.proofs.PlanLemmas.{rule_for, point_symbol}
use Rattle.lowering_laws.proofs.EffectLemmas.{become_kept, set_in_slots, set_in_state, enter_in_slots, enter_in_state}
use Rattle.lowering_laws.proofs.ReturnLemmas.{leave_in_slots, return_in_slots, return_in_state}
use Rattle.lowering_laws.proofs.MatchLemmas.{Waiting, Waits, Matches, width_within, returns_within, slot_within}

-- the slots of a push's map
map_slots : {Map : Type 0} (n : ℕ) (slots : Map → ℕ → Slot) (o : Option Map) (plain : Map) (planned : ℕ → Slot) → IsMap n slots o (Some planned) → (v : ℕ) → v < n → slots (unwrap_or o plain) v ≡ planned v
map_slots n slots None plain planned is = absurd is
map_slots n slots (Some h) plain planned is = is

module _ {S W Map : Type 0} (s : Operations W Map) {relates : W → Setting → Setting → Bool} {slots : Map → ℕ → Slot} {p : Program} {system : Pushdown S W Map} (low : IsLowering relates slots p system) (lawful : IsLawful p) where
  -- the top frame stands at body line number k
  pub record Here (gs : List Bool) (f : Frame) (fs : List Frame) (rest : List ℕ) (ms : List (SavedFrame Setting Map)) (z : Setting) (k : ℕ) (i : Instruction) : Type 0 where
    pub globals : length gs ≡ p.globals
    pub there : slice_get (code p) k ≡ Some i
    pub whole : f.point.failed ≡ false
    pub at : instruction_at p f.point.line ≡ Some i
    pub owner : Procedure
    pub found : slice_get p.procs i.procedure ≡ Some owner
    pub wide : length f.locals ≡ width owner
    pub shows : Shows p z gs f.locals
    pub waits : Waits p slots i.procedure fs rest ms

  abbrev Line : ℕ → Instruction → Type 0
  Line n i = (owner : Procedure) × (slice_get p.procs i.procedure ≡ Some owner) × IsLawfulAction p i owner n (action p i)

  module _ (gs : List Bool) (f : Frame) (fs : List Frame) (rest : List ℕ) (ms : List (SavedFrame Setting Map)) (z : Setting) (k : ℕ) (i : Instruction) (here : Here gs f fs rest ms z k i) where
    abbrev n : ℕ
    n = variables p

    abbrev names : ℕ
    names = length gs + length f.locals

    names_within : (j : ℕ) → j < names → slot_of p j < n
    names_within j h = slot_within p i.procedure here.owner here.found j (let a = here.globals in let b = here.wide in omega arith)

    -- what is lawful of this line, in the numbers of the state
    pub lawful_here : IsLawfulAction p i here.owner names (action p i)
    lawful_here =
        let line = lawful.lines k i here.there in
        let same : line.owner ≡ here.owner = same_Some line.owner here.owner (sym line.found ∙ here.found) in
        let count : p.globals + width line.owner ≡ names =
        let w : width line.owner ≡ width here.owner = ap width same in let a = here.globals in let b = here.wide in omega arith in
        subst (λ m. IsLawfulAction p i here.owner m (action p i)) count (subst (λ q. IsLawfulAction p i q (p.globals + width line.owner) (action p i)) same line.acts)

    -- the state behind a step in the same procedure matches
    stepped : (point : Point) → IsPointOf p i.procedure point → (gs' ls' : List Bool) → length gs' ≡ length gs → length ls' ≡ length f.locals
        → (z' : Setting) → Shows p z' gs' ls' → (ms' : List (SavedFrame Setting Map)) → ms' ≡ ms → (word : List ℕ) → word ≡ symbol p point ∷ []
        → Matches p slots (on_top gs' point ls' fs) (word ++ rest) ms' z'
    stepped point is_point gs' ls' same same' z' shows ms' saved word right =
        let waits : Waits p slots i.procedure fs rest ms' = subst (Waits p slots i.procedure fs rest) (sym saved) here.waits in
        subst (λ w. Matches p slots (on_top gs' point ls' fs) (w ++ rest) ms' z') (sym right)
        (record {
          globals = same ∙ here.globals;
          frames = (i.procedure, record { point = is_point; symbol = point_symbol p i.procedure point is_point; owner = here.owner; found = here.found; wide = same' ∙ here.wide; shows = shows }, waits);
        })

    -- the state behind a call matches
    called_frames : (ts : List ℕ) (callee : ℕ) (vs : List Choice) → action p i ≡ Calls ts callee vs → (fits : FitsCallee p ts callee vs) → IsPointOf p i.procedure (at_line i.next)
        → (ls' : List Bool) → length ls' ≡ width fits.procedure → (z' : Setting) → Shows p z' gs ls' → (h : Map) → ((v : ℕ) → v < n → slots h v ≡ map_slot p ts v)
        → (ms' : List (SavedFrame Setting Map)) → ms' ≡ record { saved = z; map = h } ∷ ms → (word : List ℕ) → word ≡ symbol p (at_line (first_line fits.procedure.body)) ∷ symbol p (at_line i.next) ∷ []
        → Matches p slots (on_top gs (at_line (first_line fits.procedure.body)) ls' (f ∷ fs)) (word ++ rest) ms' z'
    called_frames ts callee vs is fits next ls' wide z' shows h map ms' saved word right =
        let frame : SavedFrame Setting Map = record { saved = z; map = h } in
        let waiting : Waiting p slots callee f (symbol p (at_line i.next)) frame i.procedure = record {
          call = i;
          targets = ts;
          arguments = vs;
          whole = here.whole;
          there = here.at;
          statement = calls_at_call (returns_of p i.procedure) i i.statement ts callee vs is;
          within = refl;
          symbol = point_symbol p i.procedure (at_line i.next) next;
          owner = here.owner;
          found = here.found;
          wide = here.wide;
          shows = λ j small. own_local j small;
          map = map;
        } in
        let waits : Waits p slots callee (f ∷ fs) (symbol p (at_line i.next) ∷ rest) ms' = subst (Waits p slots callee (f ∷ fs) (symbol p (at_line i.next) ∷ rest)) (sym saved) (i.procedure, waiting, here.waits) in
        subst (λ w. Matches p slots (on_top gs (at_line (first_line fits.procedure.body)) ls' (f ∷ fs)) (w ++ rest) ms' z') (sym right)
        (record {
          globals = here.globals;
          frames = (callee, record { point = fits.begins; symbol = point_symbol p callee (at_line (first_line fits.procedure.body)) fits.begins; owner = fits.procedure; found = fits.found; wide = wide; shows = shows }, waits);
        })
      where
        own_local : (j : ℕ) → j < length f.locals → z (first_local p + j) ≡ slice_index_or f.locals j false
        own_local j small =
            let g = here.globals in
            let at = slot_local p (length gs + j) (omega arith) in
            let same : first_local p + j ≡ slot_of p (length gs + j) = omega arith in
            let back : (length gs + j) - length gs ≡ j = omega arith in
            ap z same ∙ here.shows (length gs + j) (omega arith) ∙ bit_local gs f.locals (length gs + j) (omega arith) ∙ ap (λ m. slice_index_or f.locals m false) back

    -- ---- from a rule to a move

    pub record MovesOn (a : Action) (r : Rule S W Map) (ms' : List (SavedFrame Setting Map)) (z' : Setting) : Type 0 where
      pub to : State
      pub acts : Acts p i gs f fs to a
      pub matches : Matches p slots to (r.right ++ rest) ms' z'

    goes_by : (r : Rule S W Map) (t : Planned) → IsLowered n relates slots r t → (ms' : List (SavedFrame Setting Map)) (z' : Setting) → Goes s n relates slots r r.right ms z ms' z' → Goes s n relates slots r t.right ms z ms' z'
    goes_by r t lowered ms' z' goes = subst (λ w. Goes s n relates slots r w ms z ms' z') lowered.right goes

    move_jump : (w : Formula ℕ × Point) → IsTrue (is_over names w.0) → IsPointOf p i.procedure w.1 → (r : Rule S W Map) → IsLowered n relates slots r (jump_rule p k w) → (ms' : List (SavedFrame Setting Map)) (z' : Setting)
        → Goes s n relates slots r r.right ms z ms' z' → IsTrue (value_at (bits gs f.locals) w.0) × Matches p slots (on_top gs w.1 f.locals fs) (r.right ++ rest) ms' z'
    move_jump w over point r lowered ms' z' goes =
        let by = goes_by r (jump_rule p k w) lowered ms' z' goes in
        let means = (lowered.weight z z').0 by.0 in (
          sym (value_shown p names z (bits gs f.locals) here.shows w.0 over) ∙ means.0,
          stepped w.1 point gs f.locals refl refl z' (λ j h. means.1 (slot_of p j) (names_within j h) ∙ here.shows j h) ms' by.1 r.right lowered.right,
        )

    -- a global is no return slot
    kept_global : (values : List Choice) (z' : Setting) → Means n (Assigns (range_with_len p.globals (length values)) (in_slots p values)) z z' → (k : ℕ) → k < length gs → z' k ≡ slice_index_or gs k false
    kept_global values z' means k h =
        let g = here.globals in
        let at = slot_global p k (omega arith) in
        become_kept (range_with_len p.globals (length values)) (in_slots p values) z z k (z' k) (place_below p.globals (length values) k (omega arith)) (means k (omega arith))
        ∙ ap z (sym at) ∙ here.shows k (omega arith) ∙ bit_global gs f.locals k h

    move_return : (fs' : List Frame) (rest' : List ℕ) (ms0 : List (SavedFrame Setting Map)) → Waits p slots i.procedure fs' rest' ms0 → (values : List Choice) → length values ≡ here.owner.returns → Each (IsValueOver names) values
        → (r : Rule S W Map) → IsLowered n relates slots r (return_rule p k values) → (ms' : List (SavedFrame Setting Map)) (z' : Setting) → Goes s n relates slots r r.right ms0 z ms' z'
        → (to : State) × Ends p values (bits gs f.locals) gs fs' to × Matches p slots to (r.right ++ rest') ms' z'
    move_return [] [] [] waits values count over r lowered ms' z' goes =
        let by : Goes s n relates slots r [] [] z ms' z' = subst (λ w. Goes s n relates slots r w [] z ms' z') lowered.right goes in
        let means = (lowered.weight z z').0 by.0 in (
          record { globals = gs; frames = [] },
          refl,
          subst (λ w. Matches p slots (record { globals = gs; frames = [] }) (w ++ []) ms' z') (sym lowered.right)
              (record { globals = here.globals; frames = (by.1, λ k h. kept_global values z' means k h) }),
        )
    move_return [] [] (m ∷ ms0) waits values count over r lowered ms' z' goes = absurd waits
    move_return [] (g ∷ rest') ms0 waits values count over r lowered ms' z' goes = absurd waits
    move_return (c ∷ fs') [] ms0 waits values count over r lowered ms' z' goes = absurd waits
    move_return (c ∷ fs') (g ∷ rest') [] waits values count over r lowered ms' z' goes = absurd waits
    move_return (c ∷ fs') (g ∷ rest') (m ∷ ms0) waits values count over r lowered ms' z' goes =
        let by : Goes s n relates slots r [] (m ∷ ms0) z ms' z' = subst (λ w. Goes s n relates slots r w (m ∷ ms0) z ms' z') lowered.right goes in
        let means = (lowered.weight z by.0).0 by.1 in
        let w = waits.1 in
        let call = call_at p lawful c.point.line w.call w.targets i.procedure w.arguments w.there w.statement in
        let room = returns_within p i.procedure here.owner here.found in
        let back = return_in_state p z gs f.locals here.globals here.shows values over m.saved c.locals w.shows w.targets
        (enough_values p w.targets i.procedure w.arguments call.0 here.owner here.found values count) n
        (λ j h. slot_within p waits.0 w.owner w.found j (let a = here.globals in let b = w.wide in omega arith)) (omega arith) (slots m.map) w.map by.0 z' means by.2 in
        let point : IsPointOf p waits.0 (at_line w.call.next) = subst (λ q. IsPointOf p q (at_line w.call.next)) w.within call.1 in
        let lower : Waits p slots waits.0 fs' rest' ms' = subst (Waits p slots waits.0 fs' rest') (sym by.3) waits.2 in (
          on_top back.0 (at_line w.call.next) back.1 fs',
          (w.call, w.targets, i.procedure, w.arguments, w.there, w.statement, back.0, back.1, back.2, refl),
          subst (λ u. Matches p slots (on_top back.0 (at_line w.call.next) back.1 fs') (u ++ (g ∷ rest')) ms' z') (sym lowered.right)
              (record {
                globals = back.2.globals_stay ∙ here.globals;
                frames = (waits.0, record { point = point; symbol = w.symbol; owner = w.owner; found = w.found; wide = back.2.locals_stay ∙ w.wide; shows = back.3 }, lower);
              }),
        )

    pub move_act : (a : Action) → action p i ≡ a → IsLawfulAction p i here.owner names a → (l : ℕ) (t : Planned) → slice_get (line_rules p k i a) l ≡ Some t → (r : Rule S W Map) → IsLowered n relates slots r t
        → (ms' : List (SavedFrame Setting Map)) (z' : Setting) → Goes s n relates slots r r.right ms z ms' z' → MovesOn a r ms' z'
    move_act (Jumps ways) is lawful_act l t among r lowered ms' z' goes =
        let way = get_mapped (jump_rule p k) ways l t among in
        let low_way : IsLowered n relates slots r (jump_rule p k way.0) = subst (IsLowered n relates slots r) (sym way.2) lowered in
        let fit = lawful_act l way.0 way.1 in
        let moved = move_jump way.0 fit.0 fit.1 r low_way ms' z' goes in
        record { to = on_top gs way.0.1 f.locals fs; acts = (l, way.0, way.1, moved.0, refl); matches = moved.1 }
    move_act (Sets targets values) is lawful_act l t among r lowered ms' z' goes =
        let planned = step_rule k (symbol p (at_line i.next)) (Assigns (map (slot_of p) targets) (in_slots p values)) in
        let low_set : IsLowered n relates slots r planned = subst (IsLowered n relates slots r) (sym (alone planned l t among)) lowered in
        let by = goes_by r planned low_set ms' z' goes in
        let means = (low_set.weight z z').0 by.0 in
        let new = set_in_state p z gs f.locals here.globals here.shows n names_within targets values lawful_act.2 z' means in
        record {
          to = on_top new.0 (at_line i.next) new.1 fs;
          acts = (new.0, new.1, new.2, refl);
          matches = stepped (at_line i.next) lawful_act.3 new.0 new.1 new.2.globals_stay new.2.locals_stay z' new.3 ms' by.1 r.right low_set.right;
        }
    move_act (Calls targets callee arguments) is lawful_act l t among r lowered ms' z' goes =
        let fits = lawful_act.0 in
        let q = fits.procedure in
        let planned = call_rule p k i targets q arguments in
        let callee_is : callee_at p callee ≡ q = ap (λ o. unwrap_or o (record { params = 0; locals = 0; returns = 0; body = [] })) fits.found in
        let planned_is : planned ≡ t = ap (λ x. call_rule p k i targets x arguments) (sym callee_is) ∙ alone (call_rule p k i targets (callee_at p callee) arguments) l t among in
        let low_call : IsLowered n relates slots r planned = subst (IsLowered n relates slots r) (sym planned_is) lowered in
        let by = goes_by r planned low_call ms' z' goes in
        let means = (low_call.weight z z').0 by.0 in
        let room = width_within p callee q fits.found in
        let new = enter_in_state p z gs f.locals here.globals here.shows n q (omega arith) arguments fits.arguments_fit lawful_act.2 z' means in
        record {
          to = on_top gs (at_line (first_line q.body)) new.0 (f ∷ fs);
          acts = (q, fits.found, new.0, new.1, refl);
          matches = called_frames targets callee arguments is fits lawful_act.3 new.0 new.1.wide z' new.2 (unwrap_or r.map s.plain)
              (map_slots n slots r.map s.plain (map_slot p targets) low_call.map) ms' by.1 r.right low_call.right;
        }
    move_act (Returns values) is lawful_act l t among r lowered ms' z' goes =
        let planned = return_rule p k values in
        let low_return : IsLowered n relates slots r planned = subst (IsLowered n relates slots r) (sym (alone planned l t among)) lowered in
        let moved = move_return fs rest ms here.waits values lawful_act.0 lawful_act.1 r low_return ms' z' goes in
        record { to = moved.0; acts = moved.1; matches = moved.2 }

    -- ---- from a move to a rule

    pub record RuleFollows (to : State) : Type 0 where
      pub number : ℕ
      pub rule : Rule S W Map
      pub there : slice_get system.rules number ≡ Some rule
      pub head : rule.symbol ≡ k
      pub from : rule.control ≡ 0
      pub into : rule.to ≡ 0
      pub frames : List (SavedFrame Setting Map)
      pub setting : Setting
      pub goes : Goes s n relates slots rule rule.right ms z frames setting
      pub matches : Matches p slots to (rule.right ++ rest) frames setting

    goes_for : (r : Rule S W Map) (t : Planned) → IsLowered n relates slots r t → (ms' : List (SavedFrame Setting Map)) (z' : Setting) → Goes s n relates slots r t.right ms z ms' z' → Goes s n relates slots r r.right ms z ms' z'
    goes_for r t lowered ms' z' goes = subst (λ w. Goes s n relates slots r w ms z ms' z') (sym lowered.right) goes

    follow_return : (fs' : List Frame) (rest' : List ℕ) (ms0 : List (SavedFrame Setting Map)) → Waits p slots i.procedure fs' rest' ms0 → (values : List Choice) → length values ≡ here.owner.returns → Each (IsValueOver names) values
        → (r : Rule S W Map) → IsLowered n relates slots r (return_rule p k values) → (to : State) → Ends p values (bits gs f.locals) gs fs' to
        → (ms' : List (SavedFrame Setting Map)) × (z' : Setting) × Goes s n relates slots r r.right ms0 z ms' z' × Matches p slots to (r.right ++ rest') ms' z'
    follow_return [] [] [] waits values count over r lowered to ends =
        let last = leave_in_slots p z gs f.locals here.globals here.shows values over in (
          [],
          last.0,
          subst (λ w. Goes s n relates slots r w [] z [] last.0) (sym lowered.right) ((lowered.weight z last.0).1 (last.1 n), refl),
          subst (λ w. Matches p slots to (w ++ []) [] last.0) (sym lowered.right)
              (subst (λ t. Matches p slots t [] [] last.0) (sym ends) (record { globals = here.globals; frames = (refl, λ k h. kept_global values last.0 (last.1 n) k h) })),
        )
    follow_return [] [] (m ∷ ms0) waits values count over r lowered to ends = absurd waits
    follow_return [] (g ∷ rest') ms0 waits values count over r lowered to ends = absurd waits
    follow_return (c ∷ fs') [] ms0 waits values count over r lowered to ends = absurd waits
    follow_return (c ∷ fs') (g ∷ rest') [] waits values count over r lowered to ends = absurd waits
    follow_return (c ∷ fs') (g ∷ rest') (m ∷ ms0) waits values count over r lowered to ends =
        let w = waits.1 in
        let call = call_at p lawful c.point.line w.call w.targets i.procedure w.arguments w.there w.statement in
        let same : ends.0 ≡ w.call = same_Some ends.0 w.call (sym ends.4 ∙ w.there) in
        let statement : Call ends.1 ends.2 ends.3 ≡ Call w.targets i.procedure w.arguments = sym ends.5 ∙ ap (λ (x : Instruction). x.statement) same ∙ w.statement in
        let targets : ends.1 ≡ w.targets = cc in
        let gets : Gets w.targets values (bits gs f.locals) gs c.locals ends.6 ends.7 = subst (λ ts. Gets ts values (bits gs f.locals) gs c.locals ends.6 ends.7) targets ends.8 in
        let to_is : to ≡ on_top ends.6 (at_line w.call.next) ends.7 fs' = ends.9 ∙ ap (λ (x : Instruction). on_top ends.6 (at_line x.next) ends.7 fs') same in
        let back = return_in_slots p z gs f.locals here.globals here.shows values over m.saved c.locals w.shows w.targets
        (enough_values p w.targets i.procedure w.arguments call.0 here.owner here.found values count) ends.6 ends.7 gets in
        let point : IsPointOf p waits.0 (at_line w.call.next) = subst (λ q. IsPointOf p q (at_line w.call.next)) w.within call.1 in
        let goes : Goes s n relates slots r [] (m ∷ ms0) z ms0 back.1 = (back.0, (lowered.weight z back.0).1 (back.2 n), back.3 n (slots m.map) w.map, refl) in (
          ms0,
          back.1,
          subst (λ u. Goes s n relates slots r u (m ∷ ms0) z ms0 back.1) (sym lowered.right) goes,
          subst (λ u. Matches p slots to (u ++ (g ∷ rest')) ms0 back.1) (sym lowered.right)
              (subst (λ t. Matches p slots t (g ∷ rest') ms0 back.1) (sym to_is)
              (record {
                globals = gets.globals_stay ∙ here.globals;
                frames = (waits.0, record { point = point; symbol = w.symbol; owner = w.owner; found = w.found; wide = gets.locals_stay ∙ w.wide; shows = back.4 }, waits.2);
              })),
        )

    pub follow_act : (a : Action) → action p i ≡ a → IsLawfulAction p i here.owner names a → (to : State) → Acts p i gs f fs to a → RuleFollows to
    follow_act (Jumps ways) is lawful_act to acts =
        let planned = jump_rule p k acts.1 in
        let found = rule_for low k i acts.0 planned here.there (subst (λ a. slice_get (line_rules p k i a) acts.0 ≡ Some planned) (sym is) (get_map (jump_rule p k) ways acts.0 acts.1 acts.2)) in
        let lowered = found.lowered in
        let fit = lawful_act acts.0 acts.1 acts.2 in
        let means : Means n (Assumes (renamed (slot_of p) acts.1.0)) z z = (value_shown p names z (bits gs f.locals) here.shows acts.1.0 fit.0 ∙ acts.3, λ v _. refl) in
        record {
          number = found.number;
          rule = found.rule;
          there = found.there;
          head = lowered.symbol;
          from = lowered.control;
          into = lowered.to;
          frames = ms;
          setting = z;
          goes = goes_for found.rule planned lowered ms z ((lowered.weight z z).1 means, refl);
          matches = subst (λ t. Matches p slots t (found.rule.right ++ rest) ms z) (sym acts.4) (stepped acts.1.1 fit.1 gs f.locals refl refl z here.shows ms refl found.rule.right lowered.right);
        }
    follow_act (Sets targets values) is lawful_act to acts =
        let planned = step_rule k (symbol p (at_line i.next)) (Assigns (map (slot_of p) targets) (in_slots p values)) in
        let found = rule_for low k i 0 planned here.there (subst (λ a. slice_get (line_rules p k i a) 0 ≡ Some planned) (sym is) refl) in
        let lowered = found.lowered in
        let new = set_in_slots p z gs f.locals here.globals here.shows targets values lawful_act.1 lawful_act.2 acts.0 acts.1 acts.2 in
        record {
          number = found.number;
          rule = found.rule;
          there = found.there;
          head = lowered.symbol;
          from = lowered.control;
          into = lowered.to;
          frames = ms;
          setting = new.0;
          goes = goes_for found.rule planned lowered ms new.0 ((lowered.weight z new.0).1 (new.1 n), refl);
          matches = subst (λ t. Matches p slots t (found.rule.right ++ rest) ms new.0) (sym acts.3)
              (stepped (at_line i.next) lawful_act.3 acts.0 acts.1 acts.2.globals_stay acts.2.locals_stay new.0 new.2 ms refl found.rule.right lowered.right);
        }
    follow_act (Calls targets callee arguments) is lawful_act to acts =
        let fits = lawful_act.0 in
        let q = fits.procedure in
        let planned = call_rule p k i targets q arguments in
        let callee_is : callee_at p callee ≡ q = ap (λ o. unwrap_or o (record { params = 0; locals = 0; returns = 0; body = [] })) fits.found in
        let among : slice_get (line_rules p k i (Calls targets callee arguments)) 0 ≡ Some planned = ap (λ x. Some (call_rule p k i targets x arguments)) callee_is in
        let found = rule_for low k i 0 planned here.there (subst (λ a. slice_get (line_rules p k i a) 0 ≡ Some planned) (sym is) among) in
        let lowered = found.lowered in
        let same : acts.0 ≡ q = same_Some acts.0 q (sym acts.1 ∙ fits.found) in
        let entered : IsEntered q arguments (bits gs f.locals) acts.2 = subst (λ x. IsEntered x arguments (bits gs f.locals) acts.2) same acts.3 in
        let to_is : to ≡ on_top gs (at_line (first_line q.body)) acts.2 (f ∷ fs) = acts.4 ∙ ap (λ (x : Procedure). on_top gs (at_line (first_line x.body)) acts.2 (f ∷ fs)) same in
        let new = enter_in_slots p z gs f.locals here.globals here.shows q arguments fits.arguments_fit lawful_act.2 acts.2 entered in
        let h = unwrap_or found.rule.map s.plain in
        let frame : SavedFrame Setting Map = record { saved = z; map = h } in
        record {
          number = found.number;
          rule = found.rule;
          there = found.there;
          head = lowered.symbol;
          from = lowered.control;
          into = lowered.to;
          frames = frame ∷ ms;
          setting = new.0;
          goes = goes_for found.rule planned lowered (frame ∷ ms) new.0 ((lowered.weight z new.0).1 (new.1 n), refl);
          matches = subst (λ t. Matches p slots t (found.rule.right ++ rest) (frame ∷ ms) new.0) (sym to_is)
              (called_frames targets callee arguments is fits lawful_act.3 acts.2 entered.wide new.0 new.2 h
              (map_slots n slots found.rule.map s.plain (map_slot p targets) lowered.map) (frame ∷ ms) refl found.rule.right lowered.right);
        }
    follow_act (Returns values) is lawful_act to acts =
        let planned = return_rule p k values in
        let found = rule_for low k i 0 planned here.there (subst (λ a. slice_get (line_rules p k i a) 0 ≡ Some planned) (sym is) refl) in
        let lowered = found.lowered in
        let moved = follow_return fs rest ms here.waits values lawful_act.0 lawful_act.1 found.rule lowered to acts in
        record {
          number = found.number;
          rule = found.rule;
          there = found.there;
          head = lowered.symbol;
          from = lowered.control;
          into = lowered.to;
          frames = moved.0;
          setting = moved.1;
          goes = moved.2;
          matches = moved.3;
        }
