-- The text of a ladder is no longer than a document may be.
use Rattle.std.proofs.Common.{◌≡◌, ℕ, zero, suc, ◌+◌, ◌*◌, ◌≤◌, List, [], ◌∷◌, ◌++◌, map, length, refl, ap, ◌∙◌, arith, decimal, codes, length-append}
use Rattle.std.specs.Prelude.{flat_map}
use Rattle.std.proofs.lemmas.Fmt.{length-decimal-le}
use Rattle.wpds_base.specs.Limits.{most_bytes, most_rungs}
use Rattle.document_forms.specs.Names.{name}
use Rattle.document_forms.specs.Documents.{Document}
use Rattle.document_forms.specs.Writing.{spaced, names_lines, weights_text, rule_text, pattern_text, query_text, written_lines, written}
use Rattle.ladder.specs.Ladders.{symbols_from, rule, rules_from, question, ladder_document}
use Rattle.ladder.proofs.NameLemmas.{symbol_count}

-- ---- words of at most ten bytes

abbrev AreShort : List (List ℕ) → Type 0
AreShort [] = Unit {0}
AreShort (t ∷ ts) = (length t ≤ 10) × AreShort ts

spaced_short : (ts : List (List ℕ)) → AreShort ts → length (spaced ts) ≤ 11 * length ts
spaced_short [] short = omega arith
spaced_short (t ∷ []) short = omega (arith, short.0)
spaced_short (t ∷ u ∷ ts) short =
    omega (arith, short.0, spaced_short (u ∷ ts) short.1, length-append t (32 ∷ spaced (u ∷ ts)))

number_short : (i : ℕ) → i ≤ most_rungs → length (decimal i) ≤ 5
number_short i few = length-decimal-le 5 i (omega arith) (omega (arith, few)) (omega (arith, few))

symbols_short : (i n : ℕ) → i + n ≤ most_rungs → AreShort (symbols_from i n)
symbols_short i zero few = (omega (arith, number_short i (omega (arith, few))), tt)
symbols_short i (suc n) few =
    let number = number_short i (omega (arith, few)) in
    (omega (arith, number), (omega (arith, number), (omega (arith, number), symbols_short (i + 1) n (omega (arith, few)))))

name_short : (names : List (List ℕ)) (k : ℕ) → AreShort names → length (name names k) ≤ 10
name_short [] k short = omega arith
name_short (x ∷ xs) zero short = short.0
name_short (x ∷ xs) (suc k) short = name_short xs k short.1

-- ---- lines with their ends

abbrev total : List (List ℕ) → ℕ
total [] = 0
total (l ∷ ls) = length l + 1 + total ls

bytes_of : (ls : List (List ℕ)) → length (flat_map (λ l. l ++ 10 ∷ []) ls) ≡ total ls
bytes_of [] = refl
bytes_of (l ∷ ls) =
    let rest = flat_map (λ m. m ++ 10 ∷ []) ls in
    omega (arith, length-append (l ++ 10 ∷ []) rest, length-append l (10 ∷ []), bytes_of ls)

total_append : (ls ms : List (List ℕ)) → total (ls ++ ms) ≡ total ls + total ms
total_append [] ms = omega arith
total_append (l ∷ ls) ms = omega (arith, total_append ls ms)

names_total : (word : List ℕ) (xs : List (List ℕ)) → length word ≤ 10 → AreShort xs → total (names_lines word xs) ≤ 11 * length xs + 12
names_total word [] short each = omega arith
names_total word (x ∷ xs) short each = omega (arith, spaced_short (word ∷ x ∷ xs) (short, each))

-- ---- the rules and the query, over short names

module _ (d : Document) (controls : AreShort d.controls) (symbols : AreShort d.symbols) where
  control : length (name d.controls 0) ≤ 10
  control = name_short d.controls 0 controls

  symbol : (k : ℕ) → length (name d.symbols k) ≤ 10
  symbol k = name_short d.symbols k symbols

  pop_short : (s cost : ℕ) → cost ≤ most_rungs → length (rule_text d (rule s [] cost)) ≤ 99
  pop_short s cost small =
      let words = codes "rule" ∷ name d.controls 0 ∷ name d.symbols s ∷ codes "->" ∷ name d.controls 0 ∷ codes ":" ∷ decimal cost ∷ [] in
      omega (arith, spaced_short words (omega arith, (control, (symbol s, (omega arith, (control, (omega arith, (omega (arith, number_short cost small), tt))))))))

  push_short : (s j k : ℕ) → length (rule_text d (rule s (j ∷ k ∷ []) 0)) ≤ 99
  push_short s j k =
      let words = codes "rule" ∷ name d.controls 0 ∷ name d.symbols s ∷ codes "->" ∷ name d.controls 0 ∷ name d.symbols j ∷ name d.symbols k ∷ codes ":" ∷ decimal 0 ∷ [] in
      omega (arith, spaced_short words (omega arith, (control, (symbol s, (omega arith, (control, (symbol j, (symbol k, (omega arith, (omega (arith, number_short 0 (omega arith)), tt))))))))))

  rules_total : (i n : ℕ) → total (map (rule_text d) (rules_from i n)) ≤ 100 * (3 * n + 1)
  rules_total i zero = omega (arith, pop_short (3 * i) 1 (omega arith))
  rules_total i (suc n) =
      omega (arith, push_short (3 * i) (3 * i + 3) (3 * i + 1), push_short (3 * i + 1) (3 * i + 3) (3 * i + 2), pop_short (3 * i + 2) 0 (omega arith), rules_total (i + 1) n)

  from_short : length (pattern_text d question.from) ≤ 30
  from_short =
      let start = name d.controls 0 in
      let one = name d.symbols 0 in
      omega (arith, length-append (start ++ codes ":") (32 ∷ (one ++ [])), length-append start (codes ":"), length-append one [], control, symbol 0)

  to_short : length (pattern_text d question.to) ≤ 30
  to_short = omega (arith, length-append (name d.controls 0) (codes ":"), control)

  query_short : length (query_text d question) ≤ 99
  query_short =
      let from = pattern_text d question.from in
      let to = pattern_text d question.to in
      let last = codes "=>" ++ (32 ∷ to) in
      omega (arith, length-append (codes "query") (32 ∷ (from ++ (32 ∷ last))), length-append from (32 ∷ last), length-append (codes "=>") (32 ∷ to), from_short, to_short)

cap_short : length (weights_text (ladder_document 0).weights) ≤ 30
cap_short =
    omega (arith, length-append (codes "weights cost ") (decimal 1000000000), length-decimal-le 10 1000000000 (omega arith) (omega arith) (omega arith))

pub is_short : (n : ℕ) → n ≤ most_rungs → length (written (ladder_document n)) ≤ most_bytes
is_short n few =
    let d = ladder_document n in
    let controls : AreShort d.controls = (omega arith, tt) in
    let symbols = symbols_short 0 n (omega (arith, few)) in
    let named = names_lines (codes "controls") d.controls in
    let lines = names_lines (codes "symbols") d.symbols in
    let rules = map (rule_text d) d.rules in
    let queries = query_text d question ∷ [] in
    let none : List (List ℕ) = [] in
    let whole : total (written_lines d) ≡ length (codes "wpds 1") + 1 + (length (weights_text d.weights) + 1 + total (named ++ lines ++ none ++ rules ++ queries)) = refl in
    let three = named ++ lines ++ none in
    let parts : total (named ++ lines ++ none ++ rules ++ queries) ≡ total named + total lines + total none + total rules + total queries =
    total_append (three ++ rules) queries
    ∙ ap (λ k. k + total queries) (total_append three rules
    ∙ ap (λ k. k + total rules) (total_append (named ++ lines) none
    ∙ ap (λ k. k + total none) (total_append named lines))) in
    let first : total named ≤ 23 = names_total (codes "controls") d.controls (omega arith) controls in
    let second : total lines ≤ 11 * length d.symbols + 12 = names_total (codes "symbols") d.symbols (omega arith) symbols in
    let third : total rules ≤ 100 * (3 * n + 1) = rules_total d controls symbols 0 n in
    let fourth : total queries ≤ 100 = omega (arith, query_short d controls symbols) in
    let count : length d.symbols ≡ 3 * n + 1 = symbol_count 0 n in
    let cap : length (weights_text d.weights) ≤ 30 = cap_short in
    let sum : total (written_lines d) ≤ most_bytes = omega (arith, few, whole, parts, first, second, third, fourth, count, cap) in
    omega (arith, bytes_of (written_lines d), sum)
