-- A listing is ASCII.
use Rattle.std.proofs.Common.{◌≡◌, ℕ, zero, suc, ◌+◌, ◌-◌, ◌/◌, ◌%◌, ◌<◌, Bool, true, false, List, [], ◌∷◌, ◌++◌, length, refl, ◌∙◌, subst, append-nil, arith}
use Rattle.std.specs.Prelude.{Option, None, Some, codes, decimal, ◌==◌, ◌&&◌, ◌||◌, is_some, nat_lt, option_map, option_to_list}
use Rattle.std.specs.Str.{IsAscii}
use Rattle.std.specs.Fmt.{digits, digits_onto, digit_glyph}
use Rattle.std.specs.List.{join_by}
use Rattle.std.proofs.lemmas.Bool.{cond_both, ltb-true}
use Rattle.std.proofs.lemmas.Str.{IsAscii-append}
use Rattle.std.proofs.lemmas.Str.Ascii.{IsAscii-nil}
use Rattle.witness_graph.specs.declared.node.Node.{Node}
use Rattle.witness_graph.specs.declared.node.Node.TheVariants.{Start, Lower}
use Rattle.witness_graph.specs.declared.node.Side.{Side}
use Rattle.witness_graph.specs.declared.node.Side.TheVariants.{Pre, Post}
use Rattle.report_text.specs.Listings.{rule_text, set_text, parts_text, before_text, node_text, set_line, set_lines, answer_line, listing_text}
use Rattle.report_text.specs.private.{part_text}
use Rattle.report_text.proofs.LineLemmas.{put_parts, parts_joined}

one_more : (x : ℕ) (xs : List ℕ) → x < 128 → IsAscii xs → IsAscii (x ∷ xs)
one_more x xs below rest zero = below
one_more x xs below rest (suc i) = rest i

abbrev are_below : List ℕ → Bool
are_below [] = true
are_below (x ∷ xs) = nat_lt x 128 && are_below xs

-- a word, by its bytes
word : (xs : List ℕ) → are_below xs ≡ true → IsAscii xs
word [] e = IsAscii-nil
word (x ∷ xs) e = elim (nat_lt x 128) as (λ b. nat_lt x 128 ≡ b → b && are_below xs ≡ true → IsAscii (x ∷ xs)) [
  | true ↦ λ here more. one_more x xs (ltb-true x 128 here) (word xs more)
  | false ↦ λ here more. cc
] refl e

digit_below : (n : ℕ) → digit_glyph false (n % 10) < 128
digit_below n = cond_both (nat_lt (n % 10) 10) (48 + n % 10) (87 + n % 10) (λ d. d < 128) (λ _. omega arith) (λ _. omega arith)

digits_end : (k n : ℕ) (end : List ℕ) → IsAscii end → IsAscii (digits_onto k 10 false n end)
digits_end zero n end rest = rest
digits_end (suc k) n end rest =
    let more : IsAscii (digit_glyph false (n % 10) ∷ end) = one_more (digit_glyph false (n % 10)) end (digit_below n) rest in
    cond_both (n / 10 == 0) (digit_glyph false (n % 10) ∷ end) (digits_onto k 10 false (n / 10) (digit_glyph false (n % 10) ∷ end)) IsAscii
    (λ _. more) (λ _. digits_end k (n / 10) (digit_glyph false (n % 10) ∷ end) more)

number : (n : ℕ) → IsAscii (decimal n)
unfolding digits
number n = digits_end 64 n [] IsAscii-nil

rule : (r : ℕ) → IsAscii (rule_text r)
rule r = IsAscii-append (codes "rule ") (decimal (r + 1)) (word (codes "rule ") refl) (number (r + 1))

set : (k : ℕ) → IsAscii (set_text k)
set k = IsAscii-append (codes "set ") (decimal k) (word (codes "set ") refl) (number k)

-- a part that may be there
ascii_part : (text : ℕ → List ℕ) → ((n : ℕ) → IsAscii (text n)) → (o : Option ℕ) → (more : Bool) → IsAscii (part_text (option_map text o) more)
ascii_part text each None more = IsAscii-nil
ascii_part text each (Some n) false = IsAscii-append (text n) [] (each n) IsAscii-nil
ascii_part text each (Some n) true = IsAscii-append (text n) (codes " then ") (each n) (word (codes " then ") refl)

module _ (f g h : ℕ → List ℕ) (each_f : (n : ℕ) → IsAscii (f n)) (each_g : (n : ℕ) → IsAscii (g n)) (each_h : (n : ℕ) → IsAscii (h n)) where
  ascii_parts : (a b c : Option ℕ) → IsAscii (put_parts f g h a b c [])
  ascii_parts a b c =
      IsAscii-append (part_text (option_map f a) ((false || is_some c) || is_some b)) (part_text (option_map g b) (false || is_some c) ++ (part_text (option_map h c) false ++ []))
      (ascii_part f each_f a ((false || is_some c) || is_some b))
      (IsAscii-append (part_text (option_map g b) (false || is_some c)) (part_text (option_map h c) false ++ [])
      (ascii_part g each_g b (false || is_some c))
      (IsAscii-append (part_text (option_map h c) false) [] (ascii_part h each_h c false) IsAscii-nil))

ascii_joined : (f g h : ℕ → List ℕ) → ((n : ℕ) → IsAscii (f n)) → ((n : ℕ) → IsAscii (g n)) → ((n : ℕ) → IsAscii (h n)) → (a b c : Option ℕ)
    → IsAscii (join_by (λ t. t) (codes " then ") (option_to_list (option_map f a) ++ (option_to_list (option_map g b) ++ option_to_list (option_map h c))))
ascii_joined f g h each_f each_g each_h a b c =
    subst IsAscii (parts_joined f g h a b c [] ∙ append-nil _) (ascii_parts f g h each_f each_g each_h a b c)

parts : (side : Side) (rule first second : Option ℕ) → IsAscii (parts_text side rule first second)
parts Pre r first second = ascii_joined rule_text set_text set_text rule set set r first second
parts Post r first second = ascii_joined set_text set_text rule_text set set rule first second r

before : (o : Option ℕ) → IsAscii (before_text o)
before None = IsAscii-nil
before (Some k) = IsAscii-append (set_text k) (codes " or ") (set k) (word (codes " or ") refl)

node : (side : Side) (n : Node) → IsAscii (node_text side n)
node side Start = word (codes "empty") refl
node side (Lower b r first second) = IsAscii-append (before_text b) (parts_text side r first second) (before b) (parts side r first second)

line_end : IsAscii (10 ∷ [])
line_end = word (10 ∷ []) refl

line : (side : Side) (k : ℕ) (n : Node) → IsAscii (set_line side k n)
line side k n =
    let name : List ℕ = codes "  " ++ set_text k in
    IsAscii-append (name ++ codes " = " ++ node_text side n) (10 ∷ [])
    (IsAscii-append (name ++ codes " = ") (node_text side n)
    (IsAscii-append name (codes " = ")
    (IsAscii-append (codes "  ") (set_text k) (word (codes "  ") refl) (set k))
    (word (codes " = ") refl))
    (node side n))
    line_end

lines : (side : Side) (k : ℕ) (nodes : List Node) → IsAscii (set_lines side k nodes)
lines side k [] = IsAscii-nil
lines side k (n ∷ ns) = IsAscii-append (set_line side k n) (set_lines side (k + 1) ns) (line side k n) (lines side (k + 1) ns)

answer : (k : ℕ) → IsAscii (answer_line k)
answer k =
    IsAscii-append (codes "  answer ") (set_text k ++ 10 ∷ []) (word (codes "  answer ") refl)
    (IsAscii-append (set_text k) (10 ∷ []) (set k) line_end)

pub listing : (side : Side) (nodes : List Node) → IsAscii (listing_text side nodes)
listing side nodes = IsAscii-append (set_lines side 0 nodes) (answer_line (length nodes - 1)) (lines side 0 nodes) (answer (length nodes - 1))
