use Rattle.std.proofs.Common.{◌+◌, length, sym, ap, ◌∙◌, subst}
use Rattle.semiring_laws.specs.Semiring.{Fits}
use Rattle.diagram_store.specs.Meaning.{bits_of}
use Rattle.relation_laws.specs.Building.{Parts}
use Rattle.relation_laws.specs.Relations.{leads}
use Rattle.relation_weights.specs.Relations.{relation_operations}
use Rattle.relation_weights.specs.RelationLaws.{relation_laws}
use Rattle.run_settings.specs.private.Links.{Joins}
use Rattle.run_settings.specs.private.Walks.{ArePartial}
use Rattle.run_settings.proofs.EndLemmas.{partial_fits, partial_front, partial_last, whole_is, front_length}
use Rattle.run_settings.proofs.ends.settings_at_end.Goals as goal

pub pick_pair-requires-clause-fits : goal.pick_pair-requires-clause-fits
pick_pair-requires-clause-fits c =
    let n = c.args.n in
    let m = c.args.machine.now in
    let front = c.pop.new.self.items in
    let are = subst (λ k. ArePartial (relation_operations k) m.frames m.accumulator (length m.frames + 1) c.in_ok-values.values.items) c.requires.n c.in_ok-values.ensures in
    let is = partial_last (relation_operations n) m.frames m.accumulator (length m.frames + 1) c.in_ok-values.values.items front c.in-Some.whole c.in-Some.ensures.items are in
    subst (Fits (relation_operations n)) (sym is) (partial_fits (relation_operations n) (relation_laws n) m.frames m.accumulator c.requires.machine.frames c.requires.machine.accumulator (length front))

pub returns-in_default-2-clause-linked : goal.returns-in_default-2-clause-linked
returns-in_default-2-clause-linked c = λ x y.
    let n = c.args.n in
    let m = c.args.machine.now in
    let front = c.pop.new.self.items in
    let are = subst (λ k. ArePartial (relation_operations k) m.frames m.accumulator (length m.frames + 1) c.in_ok-values.values.items) c.requires.n c.in_ok-values.ensures in
    let whole = whole_is (relation_operations n) m.frames m.accumulator c.in_ok-values.values.items front c.in-Some.whole c.in-Some.ensures.items are in
    let none = rw c.in_default-2.is at c.in_ok-pair.ensures in
    ap (λ (w : Parts). leads w x y) (sym whole) ∙ none x y

pub link_calls-requires-clause-values : goal.link_calls-requires-clause-values
link_calls-requires-clause-values c =
    let n = c.args.n in
    let m = c.args.machine.now in
    let front = c.pop.new.self.items in
    let are = subst (λ k. ArePartial (relation_operations k) m.frames m.accumulator (length m.frames + 1) c.in_ok-values.values.items) c.requires.n c.in_ok-values.ensures in
    subst (λ k. ArePartial (relation_operations n) m.frames m.accumulator k front) (front_length (relation_operations n) m.frames m.accumulator c.in_ok-values.values.items front c.in-Some.whole c.in-Some.ensures.items are)
    (partial_front (relation_operations n) m.frames m.accumulator (length m.frames + 1) c.in_ok-values.values.items front c.in-Some.whole c.in-Some.ensures.items are)

pub link_calls-requires-clause-present : goal.link_calls-requires-clause-present
link_calls-requires-clause-present c =
    let n = c.args.n in
    let m = c.args.machine.now in
    let front = c.pop.new.self.items in
    let are = subst (λ k. ArePartial (relation_operations k) m.frames m.accumulator (length m.frames + 1) c.in_ok-values.values.items) c.requires.n c.in_ok-values.ensures in
    let whole = whole_is (relation_operations n) m.frames m.accumulator c.in_ok-values.values.items front c.in-Some.whole c.in-Some.ensures.items are in
    let found = rw c.in-Some-2.is at c.in_ok-pair.ensures in
    subst (λ (w : Parts). Joins w c.in-Some-2.pair.from c.in-Some-2.pair.to) whole found.2

pub returns-clause-some : goal.returns-clause-some
returns-clause-some c =
    let n = c.args.n in
    let m = c.args.machine.now in
    let front = c.pop.new.self.items in
    let are = subst (λ k. ArePartial (relation_operations k) m.frames m.accumulator (length m.frames + 1) c.in_ok-values.values.items) c.requires.n c.in_ok-values.ensures in
    let whole = whole_is (relation_operations n) m.frames m.accumulator c.in_ok-values.values.items front c.in-Some.whole c.in-Some.ensures.items are in
    let found = rw c.in-Some-2.is at c.in_ok-pair.ensures in
    (bits_of c.in-Some-2.pair.from, bits_of c.in-Some-2.pair.to, subst (λ (w : Parts). Joins w c.in-Some-2.pair.from c.in-Some-2.pair.to) whole found.2)
