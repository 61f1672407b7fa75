use Rattle.std.proofs.Common.{◌≡◌, List, [], map, refl, sym, ap, ◌∙◌, subst}
use Rattle.pushdown_rules.specs.RunValue.{Machine}
use Rattle.pushdown_rules.specs.Values.{rules_of}
use Rattle.diagram_store.specs.Meaning.{bits_of}
use Rattle.relation_weights.specs.declared.rel_map.RelMap.{RelMap}
use Rattle.relation_laws.specs.Relations.{leads}
use Rattle.relation_weights.specs.Relations.{relation_operations}
use Rattle.setting_runs.specs.Relations.{Setting, MeansRelations}
use Rattle.setting_runs.specs.Settings.{AreMoments}
use Rattle.boolean_programs.specs.Programs.{Program, program_of}
use Rattle.boolean_meaning.specs.declared.state.State.{State as HeldState}
use Rattle.boolean_meaning.specs.HeldStates.{held}
use Rattle.lowering_laws.specs.Lowering.{variables}
use Rattle.lowering_laws.specs.Weights.{slots_of}
use Rattle.lowering_laws.specs.States.{states_along}
use Rattle.run_settings.specs.Settings.{slot_at, moments, AreSettings}
use Rattle.program_traces.specs.Traces.{entry_of, IsRunTrace}
use Rattle.program_traces.specs.private.Ways.{states_on}
use Rattle.program_traces.proofs.TraceLemmas.{run_within, traced}
use Rattle.program_traces.proofs.tracing.concrete.Goals as goal

pub settings_along-requires-clause-run : goal.settings_along-requires-clause-run
settings_along-requires-clause-run c = λ i default below.
    run_within c.args.lowering.now.system c.args.run.now (entry_of (program_of c.args.program.now)) c.requires.runs.0 c.requires.runs.1 i default below

pub states_of-requires-clause-rules : goal.states_of-requires-clause-rules
states_of-requires-clause-rules c = λ i default below.
    run_within c.args.lowering.now.system c.args.run.now (entry_of (program_of c.args.program.now)) c.requires.runs.0 c.requires.runs.1 i default below

pub states_of-requires-clause-lead : goal.states_of-requires-clause-lead
states_of-requires-clause-lead c =
    let system = c.args.lowering.now.system in
    let found = rw c.in-Some.is at c.in_ok-settings.ensures.some in
    let same : c.variables_of-n.result.count ≡ system.semiring = c.variables_of-n.ensures.count ∙ sym c.requires.system.semiring in
    subst (λ k. AreSettings k (rules_of (relation_operations k) system c.args.run.now) c.in-Some.settings) same found

pub returns-clause-some : goal.returns-clause-some
returns-clause-some c =
    let p = program_of c.args.program.now in
    let system = c.args.lowering.now.system in
    let run = c.args.run.now in
    let s = relation_operations system.semiring in
    let along = c.in-Some.settings in
    let lawful = c.programs_are_lawful.ensures.read p c.requires.read in
    let found = rw c.in-Some.is at c.in_ok-settings.ensures.some in
    let same : c.variables_of-n.result.count ≡ system.semiring = c.variables_of-n.ensures.count ∙ sym c.requires.system.semiring in
    let lead = (subst (λ k. AreSettings k (rules_of (relation_operations k) system run) along) same found).lead in
    let rules = rules_of s system run in
    let z = bits_of along.first in
    let m : Machine Setting RelMap = record { accumulator = z; frames = [] } in
    let later = moments s rules [] z (map bits_of along.later) in
    let are : AreMoments s system.semiring leads slot_at rules m later = c.settings_are_moments.ensures system.semiring system.semiring leads slot_at rules [] z (map bits_of along.later) lead in
    let moments_are : AreMoments s (variables p) leads slots_of rules m later = subst (λ k. AreMoments s k leads slots_of rules m later) c.requires.system.semiring are in
    let means : MeansRelations s (variables p) leads slots_of = subst (λ k. MeansRelations s k leads slots_of) c.requires.system.semiring (c.relations_mean_pairs.ensures system.semiring) in
    let is_run = c.moments_are_runs.ensures.states p system leads slots_of c.requires.read lawful c.semiring-relations.ensures.valid means c.requires.system.lowering run c.requires.runs.0 c.requires.runs.1 m later refl moments_are in
    let is_trace = c.moments_are_runs.ensures.trace p system leads slots_of c.requires.read lawful c.semiring-relations.ensures.valid means c.requires.system.lowering run c.requires.runs.0 c.requires.runs.1 m later refl moments_are in
    let whole = traced p system run lawful (λ t begins. c.moves_keep_states.ensures.start p t lawful begins) (λ t u is moves. c.moves_keep_states.ensures.moves p t u lawful is moves)
    (states_along p system (entry_of p) run m later) is_run is_trace in
    let states : c.from_vec.result ≡ map held (states_along p system (entry_of p) run m later) =
    c.from_vec.ensures ∙ c.in_ok-states.ensures ∙ ap (λ (q : Program). map held (states_on q system run (entry_of q) [] along)) c.in_ok-reader.ensures.program in
    subst (λ (l : List HeldState). IsRunTrace p system run l) (sym states) whole
