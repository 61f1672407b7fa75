use Rattle.std.proofs.Common.{◌≡◌, ◌<◌, get_or, length, length-set, refl, sym, ap, subst, ◌∙◌, arith}
use Rattle.std.specs.Prelude.{ℕ, List, Some, Ok, Result}
use Rattle.std.proofs.lemmas.Option.{slice_get_read, slice_get_within}
use Rattle.wpds_base.specs.declared.out_of_memory.OutOfMemory.{OutOfMemory}
use Rattle.query_answers.specs.Answering.{AreValues}
use Rattle.query_answers.specs.Values.{ValuesOf}
use Rattle.wpds_app.specs.private.Kept.{AreKept}
use Rattle.wpds_app.proofs.GroupLemmas.{group_line, place_within}
use Rattle.wpds_app.proofs.KeptLemmas.{kept_more}
use Rattle.wpds_app.proofs.together.lines_by_values.Goals as goal

pub prove-unreachable-requires : goal.prove-unreachable-requires
prove-unreachable-requires g c =
    let places = c.in_ok-group.group.places.items in
    let later = c.index-later.result.now in
    let j = c.loop-j.j in
    let within : j < length places = omega (arith, c.loop-j-test.true, c.len-j-end.ensures, c.in_ok-found.ensures.values.count, ap length c.as_slice-ends.ensures.value, c.in_ok-group.ensures.count) in
    let at = slice_get_read places (length places) j later refl within c.index-later.ensures in
    let low = place_within c.args.document.now c.args.place c.in_ok-group.group j later c.in_ok-group.ensures at in
    omega (arith, low, c.if-prove.true, c.loop-j.invariant.0)

pub index-later-requires : goal.index-later-requires
index-later-requires g c =
    let are = c.in_ok-found.ensures.values in
    omega (arith, c.loop-j-test.true, c.len-j-end.ensures, are.count, ap length c.as_slice-ends.ensures.value, c.in_ok-group.ensures.count)

pub index-requires-2 : goal.index-requires-2
index-requires-2 g c =
    let are = c.in_ok-found.ensures.values in
    let some = slice_get_within c.in_ok-group.group.places.items 0 c.args.place c.in_ok-group.ensures.begins in
    omega (arith, some, are.count, ap length c.as_slice-ends.ensures.value, c.in_ok-group.ensures.count)

pub loop-j-preserved : goal.loop-j-preserved
loop-j-preserved g c =
    let d = c.args.document.now in
    let p = c.args.system.now in
    let kind = g.S.DocumentWeights.kind in
    let operations = g.S.Semiring.operations in
    let group = c.in_ok-group.group in
    let places = group.places.items in
    let values = c.in_ok-found.found.items in
    let from = c.in_ok-from.from in
    let j = c.loop-j.j in
    let later = c.index-later.result.now in
    let v = c.index.result.now in
    let line = c.in_ok-line.line in
    let r : Result (List ℕ) OutOfMemory = Ok line in
    let q = c.index-as_slice-place.result in
    let item = subst (λ xs. q ≡ get_or xs c.args.place q) c.as_slice.ensures c.index-as_slice-place.is in
    let at_first = slice_get_read d.queries (length d.queries) c.args.place q refl c.requires.place item in
    let are = subst (λ xs. AreValues operations p c.args.options.by c.args.options.workers from xs values) c.as_slice-ends.ensures.value
    (subst (λ (v : ValuesOf _ _ _). AreValues operations v.system v.side v.workers from c.as_slice-ends.result.now values) c.requires.values c.in_ok-found.ensures.values) in
    let within : j < length values = omega (arith, c.loop-j-test.true, c.len-j-end.ensures) in
    let at = slice_get_read places (length places) j later refl (omega (arith, within, are.count, c.in_ok-group.ensures.count)) c.index-later.ensures in
    let value_at = slice_get_read values (length values) j v refl within c.index.ensures in
    let told = group_line d c.args.place kind operations c.args.options p group from q values j later v r c.semiring-semiring.result.now c.kind_computes.ensures c.requires.system c.requires.brief
    c.in_ok-group.ensures are at_first c.in_ok-from.ensures.value at value_at c.semiring-semiring.ensures.value c.in_ok-line.ensures in
    let more = kept_more kind c.args.options p.semiring d c.loop-j.kept later line c.loop-j.invariant.1 told in
    let count = ap length c.keep.ensures ∙ length-set c.loop-j.kept later (Some line) ∙ c.loop-j.invariant.0 in
    (count, subst (AreKept kind c.args.options p.semiring d) (sym c.keep.ensures) more)

pub returns-clause-lines : goal.returns-clause-lines
returns-clause-lines g c =
    let d = c.args.document.now in
    let p = c.args.system.now in
    let kind = g.S.DocumentWeights.kind in
    let operations = g.S.Semiring.operations in
    let group = c.in_ok-group.group in
    let values = c.in_ok-found.found.items in
    let from = c.in_ok-from.from in
    let v = c.index-2.result.now in
    let q = c.index-as_slice-place.result in
    let item = subst (λ xs. q ≡ get_or xs c.args.place q) c.as_slice.ensures c.index-as_slice-place.is in
    let at_first = slice_get_read d.queries (length d.queries) c.args.place q refl c.requires.place item in
    let are = subst (λ xs. AreValues operations p c.args.options.by c.args.options.workers from xs values) c.as_slice-ends.ensures.value
    (subst (λ (v : ValuesOf _ _ _). AreValues operations v.system v.side v.workers from c.as_slice-ends.result.now values) c.requires.values c.in_ok-found.ensures.values) in
    let some = slice_get_within group.places.items 0 c.args.place c.in_ok-group.ensures.begins in
    let within : 0 < length values = omega (arith, some, are.count, c.in_ok-group.ensures.count) in
    let value_at = slice_get_read values (length values) 0 v refl within c.index-2.ensures in
    group_line d c.args.place kind operations c.args.options p group from q values 0 c.args.place v c.value_line-2.result c.semiring-semiring.result.now c.kind_computes.ensures c.requires.system
    c.requires.brief c.in_ok-group.ensures are at_first c.in_ok-from.ensures.value c.in_ok-group.ensures.begins value_at c.semiring-semiring.ensures.value c.value_line-2.ensures
