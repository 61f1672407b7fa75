-- Nodes in few bytes.
use Rattle.std.specs.Prelude.{◌≡◌, ℕ, ◌-◌, ◌^◌, ◌||◌, true, false, Option, None, Some, is_some, nat_eq, cond, if◌then◌else◌}
use Rattle.std.proofs.Common.{refl, sym, ap, ◌∙◌}
use Rattle.std.proofs.lemmas.Bool.{eqb-true}
use Rattle.witness_graph.specs.declared.node.Node.{Node}
use Rattle.witness_graph.specs.declared.node.Node.TheVariants.{Start, Lower}
use Rattle.witness_graph.specs.declared.packed.Packed.TheInside.{Inside}
use Rattle.witness_graph.specs.Nodes.{has_part}

-- the mark for no node, below which are the numbers of nodes
abbrev pub no_node : ℕ
no_node = 2 ^ 32 - 1

-- the number that a word stands for, and the word of a number
abbrev pub number_of : ℕ → Option ℕ
number_of word = if nat_eq word no_node then None else Some word

abbrev pub word_of : Option ℕ → ℕ
word_of None = no_node
word_of (Some k) = k

-- the node that lowers by these, and the empty run where there are none
abbrev pub made_of : Option ℕ → Option ℕ → Option ℕ → Option ℕ → Node
made_of before rule first second =
    if is_some before || has_part (Lower before rule first second) then Lower before rule first second else Start

-- the node that is kept so
abbrev pub unpacked : Inside → Node
unpacked p = made_of (number_of p.before) p.rule (number_of p.first) (number_of p.second)

abbrev pub packed : Node → Inside
packed Start = record { before = no_node; rule = None; first = no_node; second = no_node }
packed (Lower before rule first second) =
    record { before = word_of before; rule = rule; first = word_of first; second = word_of second }

word_again : (w : ℕ) → word_of (number_of w) ≡ w
word_again w = elim (nat_eq w no_node) as (λ b. nat_eq w no_node ≡ b → word_of (cond b None (Some w)) ≡ w) [
  | true ↦ λ e. sym (eqb-true w no_node e)
  | false ↦ λ e. refl
] refl

parts_again : (before rule first second : Option ℕ)
    → packed (made_of before rule first second) ≡ record { before = word_of before; rule = rule; first = word_of first; second = word_of second }
parts_again (Some b) rule first second = refl
parts_again None (Some r) first second = refl
parts_again None None (Some f) second = refl
parts_again None None None (Some s) = refl
parts_again None None None None = refl

-- packing undoes unpacking
pub packed_again : (p : Inside) → packed (unpacked p) ≡ p
packed_again p =
    parts_again (number_of p.before) p.rule (number_of p.first) (number_of p.second)
    ∙ ap (λ w. record { before = w; rule = p.rule; first = word_of (number_of p.first); second = word_of (number_of p.second) }) (word_again p.before)
    ∙ ap (λ w. record { before = p.before; rule = p.rule; first = w; second = word_of (number_of p.second) }) (word_again p.first)
    ∙ ap (λ w. record { before = p.before; rule = p.rule; first = p.first; second = w }) (word_again p.second)
