use Rattle.std.proofs.Common.{◌≡◌, true, refl}
use Rattle.walk_pairs.proofs.PairLemmas.{one_pair}
use Rattle.walk_pairs.proofs.ReadLemmas.{hand_below}
use Rattle.walk_pairs.proofs.readings.lower_where.Goals as goal

pub returns-in_ok-lower : goal.returns-in_ok-lower
returns-in_ok-lower g c =
    let a = c.args in
    let v = a.tables.now in
    let s = g.S.Semiring.operations v.system.semiring in
    let made = c.in_ok-lower.ensures.ok in
    record {
      lowered = one_pair s (λ x w. (a.is_to ≡ true) × (x ≡ a.place) × (w ≡ v.hand)) a.place v.hand (c.if-is_to.true, refl, refl) v c.lower.new.self made;
      met = λ _. hand_below (g.S.Semiring.laws v.system.semiring) v c.lower.new.self c.valid.ensures.tables a.place made;
    }
