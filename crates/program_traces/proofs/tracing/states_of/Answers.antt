use Rattle.std.proofs.Common.{◌≡◌, ◌+◌, Bool, List, [], ◌∷◌, ◌++◌, drop, map, get_or, reverse, refl, sym, ap, ap₂, ◌∙◌, subst, arith}
use Rattle.std.specs.Prelude.{unwrap_or}
use Rattle.std.proofs.lemmas.Option.{slice_get-get_or}
use Rattle.pushdown_rules.specs.Configuration.{Configuration, at_stack}
use Rattle.relation_weights.specs.Relations.{relation_operations}
use Rattle.diagram_store.specs.Meaning.{bits_of}
use Rattle.run_settings.specs.Settings.{Along, calls_after}
use Rattle.boolean_meaning.specs.declared.state.State.{State as HeldState}
use Rattle.boolean_meaning.specs.HeldStates.{held}
use Rattle.lowering_laws.specs.States.{state_of}
use Rattle.program_traces.specs.Traces.{entry_of}
use Rattle.program_traces.specs.private.Readers.{program_in, saved_after}
use Rattle.program_traces.specs.private.Ways.{states_on, IsOnWay}
use Rattle.program_traces.proofs.FrameLemmas.{drop_at, past}
use Rattle.program_traces.proofs.WayLemmas.{rule_fires, some_later, next_there, way_next, states_more, states_end, rest_along}
use Rattle.program_traces.proofs.tracing.states_of.Goals as goal

pub loop-k-init : goal.loop-k-init
loop-k-init c =
    let p = program_in c.args.reader.now in
    let system = c.args.system.now in
    let run = c.args.run.now in
    let start : c.in_ok-here.here ≡ entry_of p = c.in_ok-here.ensures ∙ ap (λ g. at_stack 0 (g ∷ [])) c.requires.entry in
    let none : reverse c.new-saved.result.items ≡ [] = ap (λ l. reverse l) c.new-saved.ensures.items in
    let on : IsOnWay system run (entry_of p) [] [] c.args.settings = record { runs = c.requires.runs; calls_are = refl; lead = c.requires.lead.lead } in (
      [],
      subst (λ (h : Configuration). IsOnWay system run h [] (reverse c.new-saved.result.items) c.args.settings) (sym start)
          (subst (λ (s : List (List Bool)). IsOnWay system run (entry_of p) [] s c.args.settings) (sym none) on),
      ap (λ (l : List HeldState). l ++ map held (states_on p system run c.in_ok-here.here [] c.args.settings)) c.new-states.ensures.items
          ∙ ap (λ (h : Configuration). map held (states_on p system run h [] c.args.settings)) start,
    )

pub advance-before-requires : goal.advance-before-requires
advance-before-requires c =
    let system = c.args.system.now in
    let run = c.args.run.now in
    let i = c.loop-k.k-index in
    let k = get_or run i 0 in
    let cut : drop i run ≡ k ∷ drop (i + 1) run = drop_at run i k (slice_get-get_or run i 0 c.loop-k-test.true) in
    let calls = c.loop-k.invariant.0 in
    let saved = reverse c.loop-k.saved.items in
    let on = subst (λ l. IsOnWay system l c.loop-k.here calls saved c.loop-k.settings) cut c.loop-k.invariant.1 in
    let p = program_in c.args.reader.now in
    let fires = rule_fires system p k (drop (i + 1) run) c.loop-k.here calls saved c.loop-k.settings on in
    some_later system p k (drop (i + 1) run) c.loop-k.here calls saved c.loop-k.settings on fires.0 fires.1

pub pass-requires : goal.pass-requires
pass-requires c = c.rule.ensures.valid.fits.short

pub loop-k-preserved : goal.loop-k-preserved
loop-k-preserved c =
    let system = c.args.system.now in
    let run = c.args.run.now in
    let i = c.loop-k.k-index in
    let k = get_or run i 0 in
    let rest = drop (i + 1) run in
    let here = c.loop-k.here in
    let along = c.loop-k.settings in
    let cut : drop i run ≡ k ∷ rest = drop_at run i k (slice_get-get_or run i 0 c.loop-k-test.true) in
    let calls = c.loop-k.invariant.0 in
    let saved = reverse c.loop-k.saved.items in
    let on = subst (λ l. IsOnWay system l here calls saved along) cut c.loop-k.invariant.1 in
    let p = program_in c.args.reader.now in
    let r = c.rule.result.now in
    let mid = on.runs.1.0 in
    let calls' = calls_after (relation_operations system.semiring) r r.right calls (bits_of along.first) in
    let fired : c.fire.new.config ≡ mid = c.in_ok-fire.ensures.config ∙ ap (λ o. unwrap_or o here) (next_there system p k rest here calls saved along on) in
    let passed : reverse c.pass.new.saved.items ≡ saved_after r.right saved along.first = c.in_ok-pass.ensures ∙ ap (λ b. saved_after r.right saved b) c.advance-before.ensures.first in
    let advanced : c.advance-before.new.self ≡ rest_along along = c.advance-before.ensures.rest in
    let on' = way_next system p k rest here calls saved along on r c.rule.ensures.rule in (
      calls',
      subst (λ (h : Configuration). IsOnWay system rest h calls' (reverse c.pass.new.saved.items) c.advance-before.new.self) (sym fired)
          (subst (λ (s : List (List Bool)). IsOnWay system rest mid calls' s c.advance-before.new.self) (sym passed)
          (subst (λ (a : Along). IsOnWay system rest mid calls' (saved_after r.right saved along.first) a) (sym advanced) on')),
      ap (λ (h : Configuration). c.push.new.self.items ++ map held (states_on p system rest h calls' c.advance-before.new.self)) fired
          ∙ ap (λ (a : Along). c.push.new.self.items ++ map held (states_on p system rest mid calls' a)) advanced
          ∙ states_more system p k rest here calls saved along on r c.rule.ensures.rule c.loop-k.states.items c.push.new.self.items
          (map held (states_on p system run (entry_of p) [] c.args.settings)) c.in_ok-state_at.field-0
          (subst (λ l. c.loop-k.states.items ++ map held (states_on p system l here calls along) ≡ map held (states_on p system run (entry_of p) [] c.args.settings)) cut c.loop-k.invariant.2)
          (c.in_ok-state_at.ensures ∙ ap₂ (λ (l : List (List Bool)) (z : List Bool). held (state_of p here.stack (map bits_of (reverse l)) (bits_of z))) c.deref.ensures.value c.first.ensures)
          c.in_ok-push.ensures.items,
    )

pub returns : goal.returns
returns c =
    let system = c.args.system.now in
    let run = c.args.run.now in
    let i = c.loop-k.k-index in
    let here = c.loop-k.here in
    let along = c.loop-k.settings in
    let calls = c.loop-k.invariant.0 in
    let saved = reverse c.loop-k.saved.items in
    let p = program_in c.args.reader.now in
    let cut : drop i run ≡ [] = past run i (omega arith) in
    let on = subst (λ l. IsOnWay system l here calls saved along) cut c.loop-k.invariant.1 in
    states_end system p here calls saved along on c.loop-k.states.items c.push-2.new.self.items (map held (states_on p system run (entry_of p) [] c.args.settings)) c.in_ok-state_at-2.field-0
    (subst (λ l. c.loop-k.states.items ++ map held (states_on p system l here calls along) ≡ map held (states_on p system run (entry_of p) [] c.args.settings)) cut c.loop-k.invariant.2)
    (c.in_ok-state_at-2.ensures ∙ ap₂ (λ (l : List (List Bool)) (z : List Bool). held (state_of p here.stack (map bits_of (reverse l)) (bits_of z))) c.deref-2.ensures.value c.first-2.ensures)
    c.in_ok-push-2.ensures.items
