use Rattle.std.proofs.Common.{◌≡◌, ℕ, true, false, length, refl, sym, ap, ◌∙◌, subst}
use Rattle.std.specs.Prelude.{Option, None, Some, IfNone, slice_get}
use Rattle.std.proofs.lemmas.Bool.{false≢true}
use Rattle.weighted_automata.specs.declared.place.Place.{Place}
use Rattle.weight_tables.specs.Entries.{TableEntry, NoneWaits, taken}
use Rattle.weight_tables.specs.Tables.{TablesValue, AreTables, with_hand, with_entries}
use Rattle.weight_tables.specs.declared.layer.Layer.TheVariants.{Target}
use Rattle.value_tails.specs.Tailing.{IsTail}
use Rattle.value_tails.specs.private.Steps.{AreLinksGiven, AreReadsGiven, AreTailsLowered, IsLinkedUp, IsTailing}
use Rattle.value_tails.proofs.GiveLemmas.{taken_at, took, entry_made, turned_over, turned_tailing, turned_fewer, linked_over}
use Rattle.value_tails.proofs.making.turn.Goals as goal

none_of : (o : Option ℕ) (P : Type 0) → o ≡ None → IfNone o P → P
none_of o P none holds = let Q : Option ℕ → Type 0 = λ x. IfNone x P in subst Q none holds

pub returns-in_default : goal.returns-in_default
returns-in_default g c =
    let a = c.args in
    let v = a.tables.now in
    let s = g.S.Semiring.operations v.system.semiring in
    let same : c.pop.new.self ≡ v = none_of c.pop.result (c.pop.new.self ≡ v) c.in_default.is c.pop.ensures.stays in
    let none : NoneWaits v.target = none_of c.pop.result (NoneWaits v.target) c.in_default.is c.pop.ensures.none in
    let P : TablesValue g.row.S.Denot g.row.S-W.Denot g.row.S-Ret.Denot → Type 0 = IsTailing s a.first.now in
    let Q : TablesValue g.row.S.Denot g.row.S-W.Denot g.row.S-Ret.Denot → Type 0 = λ u. NoneWaits u.target in
    record {
      tailing = subst P (sym same) c.requires.tailing;
      others = same ∙ ap (λ (u : TablesValue g.row.S.Denot g.row.S-W.Denot g.row.S-Ret.Denot). record v { hand = u.hand; target = u.target }) (sym same);
      done = λ _. subst Q (sym same) none;
      fewer = λ e. absurd (false≢true e);
    }

pub read_back-requires : goal.read_back-requires
read_back-requires g c =
    let a = c.args in
    let v = a.tables.now in
    let t = c.in-Some.t in
    let entry = c.in-Some.ensures.entry in
    let e = entry.0 in
    let there : slice_get c.pop.new.self.target t ≡ Some (record e { waits = false }) =
    ap (λ (u : TablesValue g.row.S.Denot g.row.S-W.Denot g.row.S-Ret.Denot). slice_get u.target t) c.in-Some.ensures.taken ∙ taken_at t v.target e entry.1 in
    let hand : c.hold.new.self ≡ with_hand e.weight (with_entries Target (taken t v.target) v) =
    c.in_ok-hold.ensures.ok (record e { waits = false }) there ∙ ap (λ (u : TablesValue g.row.S.Denot g.row.S-W.Denot g.row.S-Ret.Denot). with_hand e.weight u) c.in-Some.ensures.taken in
    let made = entry_made g.S.Semiring.operations (λ x. g.S.Semiring.laws x) a.first.now v c.valid.ensures.system c.valid.ensures.tables c.requires.linked c.requires.tailing t e entry.1 entry.2 in
    let to : c.place-number.result.to ≡ e.place.to = ap (λ (y : Place). y.to) (c.place-number.ensures (record e { waits = false }) there) in
    let N : ℕ → Type 0 = λ n. IsTail (g.S.Semiring.operations v.system.semiring) a.first.now v.system n e.weight in
    let P : TablesValue g.row.S.Denot g.row.S-W.Denot g.row.S-Ret.Denot → Type 0 = λ u. IsTail (g.S.Semiring.operations u.system.semiring) a.first.now u.system c.place-number.result.to u.hand in
    record { made = subst P (sym hand) (subst N (sym to) made) }

pub give_links-requires : goal.give_links-requires
give_links-requires g c =
    let a = c.args in
    let v = a.tables.now in
    let t = c.in-Some.t in
    let entry = c.in-Some.ensures.entry in
    let e = entry.0 in
    let there : slice_get c.pop.new.self.target t ≡ Some (record e { waits = false }) =
    ap (λ (u : TablesValue g.row.S.Denot g.row.S-W.Denot g.row.S-Ret.Denot). slice_get u.target t) c.in-Some.ensures.taken ∙ taken_at t v.target e entry.1 in
    let hand : c.hold.new.self ≡ with_hand e.weight (with_entries Target (taken t v.target) v) =
    c.in_ok-hold.ensures.ok (record e { waits = false }) there ∙ ap (λ (u : TablesValue g.row.S.Denot g.row.S-W.Denot g.row.S-Ret.Denot). with_hand e.weight u) c.in-Some.ensures.taken in
    let v3 = c.read_back.new.tables in
    let R : TablesValue g.row.S.Denot g.row.S-W.Denot g.row.S-Ret.Denot → Type 0 = λ u. AreTailsLowered (g.S.Semiring.operations u.system.semiring) a.first.now u v3 in
    let reads = subst R hand c.in_ok-read_back.ensures.lowered in
    let made = entry_made g.S.Semiring.operations (λ x. g.S.Semiring.laws x) a.first.now v c.valid.ensures.system c.valid.ensures.tables c.requires.linked c.requires.tailing t e entry.1 entry.2 in
    let to : c.place-number.result.to ≡ e.place.to = ap (λ (y : Place). y.to) (c.place-number.ensures (record e { waits = false }) there) in
    let same : v3.hand ≡ e.weight = c.in_ok-read_back.ensures.hand ∙ ap (λ (u : TablesValue g.row.S.Denot g.row.S-W.Denot g.row.S-Ret.Denot). u.hand) hand in
    let N : ℕ → Type 0 = λ n. IsTail (g.S.Semiring.operations v.system.semiring) a.first.now v.system n v3.hand in
    let M : g.row.S-W.Denot → Type 0 = IsTail (g.S.Semiring.operations v.system.semiring) a.first.now v.system e.place.to in
    let P : TablesValue g.row.S.Denot g.row.S-W.Denot g.row.S-Ret.Denot → Type 0 = λ u. IsTail (g.S.Semiring.operations u.system.semiring) a.first.now u.system c.place-number.result.to v3.hand in
    let L : TablesValue g.row.S.Denot g.row.S-W.Denot g.row.S-Ret.Denot → Type 0 = λ u. IsLinkedUp (g.S.Semiring.operations u.system.semiring) a.first.now u in
    record {
      linked = subst L (sym reads.others) (record { links = c.requires.linked.links; opens = c.requires.linked.opens });
      made = subst P (sym reads.others) (subst N (sym to) (subst M (sym same) made));
    }

pub returns : goal.returns
returns g c =
    let a = c.args in
    let v = a.tables.now in
    let s = g.S.Semiring.operations v.system.semiring in
    let t = c.in-Some.t in
    let entry = c.in-Some.ensures.entry in
    let e = entry.0 in
    let there : slice_get c.pop.new.self.target t ≡ Some (record e { waits = false }) =
    ap (λ (u : TablesValue g.row.S.Denot g.row.S-W.Denot g.row.S-Ret.Denot). slice_get u.target t) c.in-Some.ensures.taken ∙ taken_at t v.target e entry.1 in
    let hand : c.hold.new.self ≡ with_hand e.weight (with_entries Target (taken t v.target) v) =
    c.in_ok-hold.ensures.ok (record e { waits = false }) there ∙ ap (λ (u : TablesValue g.row.S.Denot g.row.S-W.Denot g.row.S-Ret.Denot). with_hand e.weight u) c.in-Some.ensures.taken in
    let v3 = c.read_back.new.tables in
    let v4 = c.give_links.new.tables in
    let R : TablesValue g.row.S.Denot g.row.S-W.Denot g.row.S-Ret.Denot → Type 0 = λ u. AreTailsLowered (g.S.Semiring.operations u.system.semiring) a.first.now u v3 in
    let V : TablesValue g.row.S.Denot g.row.S-W.Denot g.row.S-Ret.Denot → Type 0 = λ u. AreTables (g.S.Semiring.operations u.system.semiring) u in
    let reads = subst R hand c.in_ok-read_back.ensures.lowered in
    let to : c.place-number.result.to ≡ e.place.to = ap (λ (y : Place). y.to) (c.place-number.ensures (record e { waits = false }) there) in
    let same : v3.hand ≡ e.weight = c.in_ok-read_back.ensures.hand ∙ ap (λ (u : TablesValue g.row.S.Denot g.row.S-W.Denot g.row.S-Ret.Denot). u.hand) hand in
    let A : TablesValue g.row.S.Denot g.row.S-W.Denot g.row.S-Ret.Denot → Type 0 = λ u. AreReadsGiven (g.S.Semiring.operations u.system.semiring) a.first.now v3.target c.place-number.result.to u.hand in
    let A' : ℕ → Type 0 = λ n. AreReadsGiven s a.first.now v3.target n e.weight in
    let B : ℕ → Type 0 = λ n. AreLinksGiven (g.S.Semiring.operations v3.system.semiring) a.first.now v3 v4.target n v3.hand in
    let read_met = subst A' to (subst A hand c.in_ok-read_back.ensures.met) in
    let link_met = subst B to c.in_ok-give_links.ensures.met in
    let tables = subst V hand c.valid-2.ensures.tables in
    let few = c.valid-3.ensures.tables.target.few in
    record {
      tailing = turned_tailing g.S.Semiring.operations (λ x. g.S.Semiring.laws x) a.first.now v c.valid.ensures.system c.valid.ensures.tables c.requires.linked c.requires.tailing t e entry.1 entry.2 tables v3 v4 reads
          c.in_ok-give_links.ensures.lowered same read_met link_met few;
      others = turned_over g.S.Semiring.operations (λ x. g.S.Semiring.laws x) a.first.now v c.valid.ensures.system c.valid.ensures.tables c.requires.linked c.requires.tailing t e entry.1 entry.2 tables v3 v4 reads
          c.in_ok-give_links.ensures.lowered same read_met link_met few;
      done = λ no. absurd (false≢true (sym no));
      fewer = λ _. turned_fewer g.S.Semiring.operations (λ x. g.S.Semiring.laws x) a.first.now v c.valid.ensures.system c.valid.ensures.tables c.requires.linked c.requires.tailing t e entry.1 entry.2 tables v3 v4 reads
          c.in_ok-give_links.ensures.lowered same read_met link_met few;
    }
