use Rattle.std.proofs.Common.{◌≡◌, ◌+◌, length, take, drop, sym, ap, ◌∙◌, subst, arith}
use Rattle.std.specs.Prelude.{Some, slice_get}
use Rattle.std.proofs.lemmas.List.{length_push}
use Rattle.semiring_laws.specs.Semiring.{Fits}
use Rattle.pushdown_rules.specs.RunValue.{product}
use Rattle.relation_laws.specs.Building.{Parts}
use Rattle.relation_weights.specs.Relations.{relation_operations}
use Rattle.relation_weights.specs.RelationLaws.{relation_laws}
use Rattle.run_settings.specs.private.Links.{Joins, AreJoined}
use Rattle.run_settings.specs.private.Moments.{Moment, newest_of, IsWide}
use Rattle.run_settings.proofs.EndLemmas.{partial_fits, partial_front, partial_last, joins_call, joined_call}
use Rattle.run_settings.proofs.ends.link_calls.Goals as goal

pub link-requires-clause-value : goal.link-requires-clause-value
link-requires-clause-value c =
    let n = c.args.n in
    let m = c.args.machine.now in
    let front = c.pop.new.self.items in
    let is = partial_last (relation_operations n) m.frames m.accumulator (length c.calls.values.items) c.calls.values.items front c.in-Some.value c.in-Some.ensures.items c.calls.invariant.values in
    subst (Fits (relation_operations n)) (sym is) (partial_fits (relation_operations n) (relation_laws n) m.frames m.accumulator c.requires.machine.frames c.requires.machine.accumulator (length front))

pub link-requires-clause-joins : goal.link-requires-clause-joins
link-requires-clause-joins c =
    let n = c.args.n in
    let m = c.args.machine.now in
    let front = c.pop.new.self.items in
    let k = length c.calls.values.items in
    let is = partial_last (relation_operations n) m.frames m.accumulator k c.calls.values.items front c.in-Some.value c.in-Some.ensures.items c.calls.invariant.values in
    let next : k ≡ length front + 1 = ap (λ l. length l) c.in-Some.ensures.items ∙ length_push front c.in-Some.value in
    let place : length front ≡ c.len.result = omega arith in
    let there : slice_get m.frames (length front) ≡ Some c.call_at-call.result.now = ap (slice_get m.frames) place ∙ c.call_at-call.ensures in
    joins_call n m.frames m.accumulator (length front) k next c.call_at-call.result.now there c.in-Some.value is c.calls.moment.start c.calls.moment.saved c.calls.moment.present c.calls.invariant.present

pub calls-preserved : goal.calls-preserved
calls-preserved c =
    let n = c.args.n in
    let m = c.args.machine.now in
    let front = c.pop.new.self.items in
    let k = length c.calls.values.items in
    let at = c.calls.moment in
    let is = partial_last (relation_operations n) m.frames m.accumulator k c.calls.values.items front c.in-Some.value c.in-Some.ensures.items c.calls.invariant.values in
    let next : k ≡ length front + 1 = ap (λ l. length l) c.in-Some.ensures.items ∙ length_push front c.in-Some.value in
    let place : length front ≡ c.len.result = omega arith in
    let there : slice_get m.frames (length front) ≡ Some c.call_at-call.result.now = ap (slice_get m.frames) place ∙ c.call_at-call.ensures in
    let linked = c.in_ok-link.ensures in
    let setting = linked.0 in
    let short = c.calls.invariant.short in
    let wide = c.calls.invariant.wide in record {
      values = partial_front (relation_operations n) m.frames m.accumulator k c.calls.values.items front c.in-Some.value c.in-Some.ensures.items c.calls.invariant.values;
      short = omega arith;
      wide = subst (IsWide n) (sym linked.1) (record { start = wide.start; saved = (linked.4, wide.saved); present = wide.present });
      joined =
          subst (λ (x : Moment). AreJoined (drop (length front) m.frames) x.start x.saved) (sym linked.1)
          (joined_call n m.frames m.accumulator (length front) k next c.call_at-call.result.now there c.in-Some.value is at.start at.saved at.present setting c.calls.invariant.joined linked.2);
      present =
          subst (λ (x : Moment). Joins (product (relation_operations n) (take (length front) m.frames) m.accumulator) (newest_of x.start x.saved) x.present) (sym linked.1)
          (subst (λ (v : Parts). Joins v setting at.present) is linked.3);
    }
