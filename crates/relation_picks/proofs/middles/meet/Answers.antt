use Rattle.std.proofs.Common.{ℕ, suc, ◌≡◌, ◌<◌, ◌+◌, ◌*◌, ◌&&◌, slice_index, length, ap, ◌∙◌, arith}
use Rattle.std.proofs.lemmas.Result.{IfOk-weaker}
use Rattle.diagram_store.specs.Diagrams.{meaning}
use Rattle.relation_picks.proofs.PairLemmas.{both, moved_is}
use Rattle.relation_picks.proofs.middles.meet.Goals as goal

numbers_in : (c : goal.After-drop-names-2) → (k : ℕ) → k < 2 * c.args.n → slice_index c.deref.result.now k ≡ suc k
numbers_in c k below = ap (λ l. slice_index l k) c.deref.ensures.value ∙ c.in_ok-names.ensures.numbers k below

pub returns-clause-value : goal.returns-clause-value
returns-clause-value c =
    IfOk-weaker c.apply_table2.result _ _ (λ e h bits.
    h bits
    ∙ both (meaning c.args.first.now bits) (meaning c.in_ok-moved.moved bits)
    ∙ ap (λ b. meaning c.args.first.now bits && b)
    (c.in_ok-moved.ensures.value bits ∙ moved_is (2 * c.args.n) c.args.second.now c.requires.second c.deref.result.now (numbers_in c) bits)) c.apply_table2.ensures.value

pub returns-clause-variables : goal.returns-clause-variables
returns-clause-variables c =
    let n = c.args.n in
    let long : length c.deref.result.now ≡ 2 * n = ap (λ l. length l) c.deref.ensures.value ∙ c.in_ok-names.ensures.long in
    let below : (k : ℕ) → k < length c.deref.result.now → slice_index c.deref.result.now k < 2 * n + 1 =
    λ k h. let is = numbers_in c k (omega arith) in omega arith in
    IfOk-weaker c.apply_table2.result _ _ (λ e h.
    h (2 * n + 1) (λ r m at. let small = c.requires.first r m at in omega arith) (c.in_ok-moved.ensures.variables (2 * n + 1) below)) c.apply_table2.ensures.variables
