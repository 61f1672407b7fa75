use Rattle.std.proofs.Common.{rules, ◌≡◌, ◌+◌, ◌<◌, [], ◌∷◌, length, get_or, refl, ap, ◌∙◌, subst, arith}
use Rattle.std.proofs.lemmas.List.{length-append}
use Rattle.std.specs.Prelude.{Some, slice_get}
use Rattle.std.proofs.lemmas.Option.{slice_get_read}
use Rattle.wpds_base.specs.Limits.{most_queries}
use Rattle.pattern_openings.specs.PatternOpenings.{IsOver}
use Rattle.pushdown_rules.specs.Pushdown.{Pushdown}
use Rattle.wpds_app.proofs.GroupLemmas.{group_alone, group_more}
use Rattle.wpds_app.proofs.together.gather.Goals as goal

pub loop-k-init : goal.loop-k-init
loop-k-init g c =
    let d = c.args.document.now in
    let place = c.args.place in
    let q = c.index-queries-place.result in
    let end = c.in_ok-end_of.field-0 in
    let item = subst (λ xs. q ≡ get_or xs place q) c.as_slice-queries.ensures c.index-queries-place.is in
    let there : slice_get d.queries place ≡ Some q = slice_get_read d.queries (length d.queries) place q refl c.requires.place item in
    let over = subst (λ (p : Pushdown _ _ _). IsOver p.controls p.symbols end) c.requires.system c.in_ok-end_of.ensures.over in (
      group_alone d place c.in_ok-group.group end c.in_ok-group.ensures.places c.in_ok-group.ensures.ends over
          (record { begins = q; at_first = there; query = q; at_place = there; alike = refl; ends = c.in_ok-end_of.ensures.value }),
      omega (arith, ap length c.in_ok-group.ensures.ends),
    )

pub loop-k-preserved : goal.loop-k-preserved
loop-k-preserved g c =
    let d = c.args.document.now in
    let place = c.args.place in
    let k = c.loop-k.k in
    let first = c.index-queries-place.result in
    let q = c.index-queries-k.result in
    let end = c.in_ok-end.end in
    let read = c.as_slice-queries.ensures in
    let first_item = subst (λ xs. first ≡ get_or xs place first) read c.index-queries-place.is in
    let item = subst (λ xs. q ≡ get_or xs k q) read c.index-queries-k.is in
    let within : k < length d.queries = omega (arith, c.loop-k-test.true, ap length read) in
    let alike : q.from ≡ first.from = search rules in
    let few = c.requires.document.few_queries in
    let room : length c.loop-k.group.ends.items < most_queries = omega (arith, c.loop-k.invariant.1, within, few) in
    let more : length c.add.new.self.ends.items ≡ length c.loop-k.group.ends.items + 1 = ap length c.in_ok-add.ensures.ends ∙ length-append c.loop-k.group.ends.items (end ∷ []) in
    let over = subst (λ (p : Pushdown _ _ _). IsOver p.controls p.symbols end) c.requires.system c.in_ok-end.ensures.over in (
      group_more d place c.loop-k.group c.add.new.self k end c.loop-k.invariant.0 room c.in_ok-add.ensures.places c.in_ok-add.ensures.ends over
          (record {
            begins = first;
            at_first = slice_get_read d.queries (length d.queries) place first refl c.requires.place first_item;
            query = q;
            at_place = slice_get_read d.queries (length d.queries) k q refl within item;
            alike = alike;
            ends = c.in_ok-end.ensures.value;
          }),
      omega (arith, more, c.loop-k.invariant.1),
    )
