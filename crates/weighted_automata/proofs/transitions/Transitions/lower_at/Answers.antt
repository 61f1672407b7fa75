use Rattle.std.proofs.Common.{◌<◌, ◌++◌, length, sym, ap, ◌∙◌, subst, arith}
use Rattle.std.specs.Prelude.{slice_get}
use Rattle.std.proofs.lemmas.Option.{get_or_from_slice_get}
use Rattle.weighted_automata.specs.Entries.{lowered}
use Rattle.weighted_automata.specs.private.Index.{AreIndexed}
use Rattle.weighted_automata.proofs.EntryLemmas.{written_at, written_distinct, written_places}
use Rattle.weighted_automata.proofs.transitions.Transitions.lower_at.Goals as goal

within : (g : _) (c : goal.After-replace g) → c.args.k < length c.self.inside.entries.members
within g c = let e = ap (λ v. length v.transitions) c.self.view_is in omega (arith, e, c.requires)

pub invariant_of-self : goal.invariant_of-self
invariant_of-self g c = (
  written_distinct c.self.inside.entries.members c.replace.new.self.members c.self.invariant.0 c.args.k c.get.result.now (sym (get_or_from_slice_get c.self.inside.entries.members c.args.k c.get.result.now c.get.result.now c.get.ensures)) c.args.weight c.args.node c.replace.ensures.members (within g c),
  omega (arith, c.replace.ensures.spare, c.self.invariant.1),
  subst (λ ps. AreIndexed ps c.self.inside.index)
      (sym (written_places c.self.inside.entries.members c.replace.new.self.members c.self.invariant.0 c.args.k c.get.result.now (sym (get_or_from_slice_get c.self.inside.entries.members c.args.k c.get.result.now c.get.result.now c.get.ensures)) c.args.weight c.args.node c.replace.ensures.members (within g c)))
      c.self.invariant.2,
  c.self.invariant.3,
  c.self.invariant.4,
)

pub returns-clause-lowered : goal.returns-clause-lowered
returns-clause-lowered g c = λ t there.
    written_at c.self.inside.entries.members c.replace.new.self.members c.self.invariant.0 c.args.k c.get.result.now (sym (get_or_from_slice_get c.self.inside.entries.members c.args.k c.get.result.now c.get.result.now c.get.ensures)) c.args.weight c.args.node c.replace.ensures.members
    t (ap (λ v. slice_get v.transitions c.args.k) c.self.view_is ∙ there)
    ∙ ap (λ v. lowered t.place c.args.weight c.args.node v.transitions) c.self.view_is

pub returns-clause-room : goal.returns-clause-room
returns-clause-room g c =
    ap (λ ps. ps ++ c.self.inside.waiting.items)
    (written_places c.self.inside.entries.members c.replace.new.self.members c.self.invariant.0 c.args.k c.get.result.now (sym (get_or_from_slice_get c.self.inside.entries.members c.args.k c.get.result.now c.get.result.now c.get.ensures)) c.args.weight c.args.node c.replace.ensures.members (within g c))
    ∙ ap (λ v. v.room) c.self.view_is
