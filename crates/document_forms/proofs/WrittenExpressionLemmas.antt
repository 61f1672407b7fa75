-- Expressions are read as they are written.
use Rattle.std.proofs.Common.{◌≡◌, ◌↔◌, ℕ, ◌+◌, ◌-◌, ◌<◌, ◌≤◌, Bool, true, false, not, ◌&&◌, ◌||◌, ◌==◌, List, [], ◌∷◌, ◌++◌, length, Some, refl, sym, ap, ap₂, ◌∙◌, subst, append_assoc, append-nil, arith, decimal}
use Rattle.std.specs.Prelude.{All, max, bytes_eq, codes, nat_le, nat_lt}
use Rattle.std.proofs.lemmas.Bool.{and_parts, and_from, or_from, and_right, false_from_ne_true, ltb-true, leb-true, eqb-true}
use Rattle.wpds_base.specs.Limits.{most_table2, most_table3, most_depth}
use Rattle.wpds_base.specs.Lists.{IsOnce}
use Rattle.wpds_port.specs.declared.Mark.TheVariants.{Comma, Not, Open, Close}
use Rattle.wpds_port.specs.declared.Word.{Word}
use Rattle.wpds_port.specs.declared.Word.TheVariants.{Name, Number, Mark as Sign}
use Rattle.truth_tables.specs.Formulas.{Formula, Constant as Const, Variable as Var, Opposite, Binary, Ternary, is_over}
use Rattle.truth_tables.specs.Grammar.{Tree, Constant, Variable, Inverse, Table2, Table3, digit_of, tree_words, tree_variables, level, is_expression_word, is_grouped, Writes, depth, number_of, has_large_table}
use Rattle.truth_tables.specs.Stacks.{tree_of}
use Rattle.wpds_port.specs.Words.{brackets_after}
use Rattle.document_forms.specs.Lines.{in_front}
use Rattle.document_forms.specs.Names.{has_unknown, name}
use Rattle.document_forms.specs.Words.{is_comma, is_semicolon, is_return, parted_outside}
use Rattle.document_forms.specs.FormWords.{has_none}
use Rattle.document_forms.specs.Documents.{expression_value}
use Rattle.document_forms.specs.Writing.{expression_text}
use Rattle.document_forms.specs.Lawful.{IsName, nesting, has_small_ternaries, IsExpressionText}
use Rattle.document_forms.proofs.FormLemmas.{none_append}
use Rattle.document_forms.proofs.GrowthLemmas.{three}
use Rattle.document_forms.proofs.WrittenWordLemmas.{Says, says_word, says_apart, says_joined}
use Rattle.document_forms.proofs.LawfulLemmas.{known_both}
use Rattle.document_forms.proofs.WrittenNameLemmas.{number_named, name_among, known_more, name_at, says_named, says_number, number_written}
use Rattle.document_forms.proofs.WrittenMapLemmas.{no_word, other_word}
use Rattle.document_forms.proofs.WrittenQueryLemmas.{not_more}
use Rattle.document_forms.proofs.WrittenListLemmas.{between, fronted, fronted_first, fronted_both}

-- as the law on expressions has it
abbrev pub OneTree : Type 0
OneTree = (words : List Word) (e : Tree) → (tree_of words ≡ Some e) ↔ Writes e words

-- ---- the words around operands

moved : (x u : List ℕ) (b : ℕ) (y : List ℕ) → (x ++ (u ++ b ∷ [])) ++ y ≡ (x ++ u) ++ b ∷ y
moved x u b y = append_assoc x (u ++ b ∷ []) y ∙ ap (λ z. x ++ z) (append_assoc u (b ∷ []) y) ∙ sym (append_assoc x u (b ∷ y))

-- a text behind another, with a blank at the end of what stands between
pub says_behind : (x u y : List ℕ) (ws vs : List Word) → Says (x ++ u) ws → Says y vs → Says ((x ++ (u ++ 32 ∷ [])) ++ y) (ws ++ vs)
says_behind x u y ws vs s k = subst (λ z. Says z (ws ++ vs)) (sym (moved x u 32 y)) (says_apart (x ++ u) y ws vs s k)

says_open : (x y : List ℕ) (ws vs : List Word) → Says x ws → Says y vs → Says (x ++ codes " ( " ++ y) (ws ++ Sign Open ∷ [] ++ vs)
says_open x y ws vs s k = says_behind x (codes " (") y (ws ++ Sign Open ∷ []) vs (says_apart x (codes "(") ws (Sign Open ∷ []) s (says_word (Sign Open) refl refl)) k

says_next : (x y : List ℕ) (ws vs : List Word) → Says x ws → Says y vs → Says (x ++ codes ", " ++ y) (ws ++ Sign Comma ∷ vs)
says_next x y ws vs s k =
    subst (Says (x ++ codes ", " ++ y)) (append_assoc ws (Sign Comma ∷ []) vs)
    (says_behind x (codes ",") y (ws ++ Sign Comma ∷ []) vs (says_joined x 44 [] ws (Sign Comma ∷ []) refl s (says_word (Sign Comma) refl refl)) k)

says_close : (x : List ℕ) (ws : List Word) → Says x ws → Says (x ++ codes " )") (ws ++ Sign Close ∷ [])
says_close x ws s = says_apart x (codes ")") ws (Sign Close ∷ []) s (says_word (Sign Close) refl refl)

-- ---- words between which brackets keep commas

abbrev pub KeptFrom : ℕ → List Word → Type 0
KeptFrom k ws = (d : ℕ) → k ≤ d → (rest : List Word) → parted_outside d is_comma (ws ++ rest) ≡ fronted ws (parted_outside d is_comma rest)

pub kept_word : (w : Word) → is_comma w ≡ false → ((d : ℕ) → brackets_after d w ≡ d) → KeptFrom 0 (w ∷ [])
kept_word w c b d l rest =
    ap (λ t. elim t as (λ _. List (List Word)) [ true ↦ [] ∷ parted_outside d is_comma rest | false ↦ in_front w (parted_outside (brackets_after d w) is_comma rest) ]) (and_right (d == 0) (is_comma w) c)
    ∙ ap (λ e. in_front w (parted_outside e is_comma rest)) (b d)

kept_comma : KeptFrom 1 (Sign Comma ∷ [])
kept_comma d l rest =
    ap (λ t. elim (t && true) as (λ _. List (List Word)) [ true ↦ [] ∷ parted_outside d is_comma rest | false ↦ in_front (Sign Comma) (parted_outside d is_comma rest) ])
    (false_from_ne_true (d == 0) (λ e. absurd (omega (arith, eqb-true d 0 e))))

kept_later : (ws : List Word) → KeptFrom 0 ws → KeptFrom 1 ws
kept_later ws k d l rest = k d (omega arith) rest

kept_both : (n : ℕ) (us vs : List Word) → KeptFrom n us → KeptFrom n vs → KeptFrom n (us ++ vs)
kept_both n us vs k m d l rest =
    ap (parted_outside d is_comma) (append_assoc us vs rest)
    ∙ k d l (vs ++ rest) ∙ ap (fronted us) (m d l rest) ∙ sym (fronted_both us vs (parted_outside d is_comma rest))

kept_open : (d : ℕ) (rest : List Word) → parted_outside d is_comma (Sign Open ∷ rest) ≡ in_front (Sign Open) (parted_outside (d + 1) is_comma rest)
kept_open d rest = ap (λ t. elim t as (λ _. List (List Word)) [ true ↦ [] ∷ parted_outside d is_comma rest | false ↦ in_front (Sign Open) (parted_outside (d + 1) is_comma rest) ]) (and_right (d == 0) false refl)

kept_close : (d : ℕ) (rest : List Word) → parted_outside (d + 1) is_comma (Sign Close ∷ rest) ≡ in_front (Sign Close) (parted_outside d is_comma rest)
kept_close d rest =
    ap (λ t. elim t as (λ _. List (List Word)) [ true ↦ [] ∷ parted_outside (d + 1) is_comma rest | false ↦ in_front (Sign Close) (parted_outside (d + 1 - 1) is_comma rest) ]) (and_right (d + 1 == 0) false refl)
    ∙ ap (λ e. in_front (Sign Close) (parted_outside e is_comma rest)) (less d)
  where
    less : (n : ℕ) → n + 1 - 1 ≡ n
    less n = omega arith

kept_bracketed : (ws : List Word) → KeptFrom 1 ws → KeptFrom 0 (Sign Open ∷ (ws ++ Sign Close ∷ []))
kept_bracketed ws k d l rest =
    kept_open d ((ws ++ Sign Close ∷ []) ++ rest)
    ∙ ap (in_front (Sign Open))
    (ap (parted_outside (d + 1) is_comma) (append_assoc ws (Sign Close ∷ []) rest)
    ∙ k (d + 1) (omega arith) (Sign Close ∷ rest)
    ∙ ap (fronted ws) (kept_close d rest)
    ∙ sym (fronted_both ws (Sign Close ∷ []) (parted_outside d is_comma rest)))

-- pieces that keep their commas
abbrev pub AreKept : List (List Word) → Type 0
AreKept [] = Unit {0}
AreKept (ws ∷ wss) = KeptFrom 0 ws × AreKept wss

pub parted_kept : (ws : List Word) (wss : List (List Word)) → AreKept (ws ∷ wss) → parted_outside 0 is_comma (between (Sign Comma) (ws ∷ wss)) ≡ ws ∷ wss
parted_kept ws [] k =
    ap (parted_outside 0 is_comma) (sym (append-nil ws)) ∙ k.0 0 (omega arith) [] ∙ fronted_first ws [] [] ∙ ap (λ v. v ∷ []) (append-nil ws)
parted_kept ws (vs ∷ wss) k =
    k.0 0 (omega arith) (Sign Comma ∷ between (Sign Comma) (vs ∷ wss))
    ∙ fronted_first ws [] (parted_outside 0 is_comma (between (Sign Comma) (vs ∷ wss)))
    ∙ ap₂ (λ v ps. v ∷ ps) (append-nil ws) (parted_kept vs wss k.1)

-- A word that is none of those at which a test holds stands in no expression.
pub record Passes (test : Word → Bool) : Type 0 where
  pub name : (x : List ℕ) → IsName x → test (Name x) ≡ false
  pub tab2 : test (Name (codes "tab2")) ≡ false
  pub tab3 : test (Name (codes "tab3")) ≡ false
  pub number : (n : List ℕ) → test (Number n) ≡ false
  pub inverse : test (Sign Not) ≡ false
  pub open_ : test (Sign Open) ≡ false
  pub close : test (Sign Close) ≡ false
  pub comma : test (Sign Comma) ≡ false

pub no_return : Passes is_return
no_return = record {
  name = λ x h. no_word (codes "return") x refl h;
  tab2 = refl;
  tab3 = refl;
  number = λ n. refl;
  inverse = refl;
  open_ = refl;
  close = refl;
  comma = refl;
}

pub no_semicolon : Passes is_semicolon
no_semicolon = record {
  name = λ x h. refl;
  tab2 = refl;
  tab3 = refl;
  number = λ n. refl;
  inverse = refl;
  open_ = refl;
  close = refl;
  comma = refl;
}

module _ (names : List (List ℕ)) (named : All IsName names) (once : IsOnce names) where
  -- the tree as which a formula is written
  abbrev pub tree_at : Formula ℕ → Tree
  tree_at (Const b) = Constant b
  tree_at (Var k) = Variable (name names k)
  tree_at (Opposite f) = Inverse (tree_at f)
  tree_at (Binary t f g) = Table2 (decimal t) (tree_at f) (tree_at g)
  tree_at (Ternary t f g h) = Table3 (decimal t) (tree_at f) (tree_at g) (tree_at h)

  -- its variables have names, and its tables are small
  abbrev IsFit : Formula ℕ → Type 0
  IsFit (Const b) = Unit {0}
  IsFit (Var k) = k < length names
  IsFit (Opposite f) = IsFit f
  IsFit (Binary t f g) = (t ≤ most_table2) × IsFit f × IsFit g
  IsFit (Ternary t f g h) = (t ≤ most_table3) × IsFit f × IsFit g × IsFit h

  fits : (f : Formula ℕ) → is_over (length names) f ≡ true → has_small_ternaries f ≡ true → IsFit f
  fits (Const b) o t = tt
  fits (Var k) o t = ltb-true k (length names) o
  fits (Opposite f) o t = fits f o t
  fits (Binary n f g) o t =
      let k = three (nat_lt n 16) (is_over (length names) f) (is_over (length names) g) o in
      let s = and_parts (has_small_ternaries f) (has_small_ternaries g) t in
      let few = ltb-true n 16 k.0 in
      (omega arith, fits f k.1 s.0, fits g k.2 s.1)
  fits (Ternary n f g h) o t =
      let k = three (is_over (length names) f) (is_over (length names) g) (is_over (length names) h) o in
      let s = and_parts (nat_le n most_table3) (has_small_ternaries f && (has_small_ternaries g && has_small_ternaries h)) t in
      let u = and_parts (has_small_ternaries f) (has_small_ternaries g && has_small_ternaries h) s.1 in
      let v = and_parts (has_small_ternaries g) (has_small_ternaries h) u.1 in
      (leb-true n most_table3 s.0, fits f k.0 u.0, fits g k.1 v.0, fits h k.2 v.1)

  pub expression_fits : (f : Formula ℕ) → IsExpressionText (length names) f → IsFit f
  expression_fits f h = fits f h.over h.ternaries

  -- ---- the words

  says_constant : (b : Bool) → Says (expression_text names (Const b)) (tree_words (Constant b))
  says_constant true = says_word (Number (codes "1")) refl refl
  says_constant false = says_word (Number (codes "0")) refl refl

  pub says_expression : (f : Formula ℕ) → IsFit f → Says (expression_text names f) (tree_words (tree_at f))
  says_expression (Const b) h = says_constant b
  says_expression (Var k) h = says_named names k named h
  says_expression (Opposite f) h = says_apart (codes "!") (expression_text names f) (Sign Not ∷ []) (tree_words (tree_at f)) (says_word (Sign Not) refl refl) (says_expression f h)
  says_expression (Binary t f g) h =
      let x = expression_text names f in
      let y = expression_text names g in
      let head = codes "tab2 " ++ decimal t in
      let words = Name (codes "tab2") ∷ Number (decimal t) ∷ [] in
      let table : Says head words = says_apart (codes "tab2") (decimal t) (Name (codes "tab2") ∷ []) (Number (decimal t) ∷ []) (says_word (Name (codes "tab2")) refl refl) (says_number t (omega arith)) in
      says_close (head ++ codes " ( " ++ x ++ codes ", " ++ y) (words ++ Sign Open ∷ [] ++ tree_words (tree_at f) ++ Sign Comma ∷ tree_words (tree_at g))
      (says_next (head ++ codes " ( " ++ x) y (words ++ Sign Open ∷ [] ++ tree_words (tree_at f)) (tree_words (tree_at g))
      (says_open head x words (tree_words (tree_at f)) table (says_expression f h.1)) (says_expression g h.2))
  says_expression (Ternary t f g i) h =
      let x = expression_text names f in
      let y = expression_text names g in
      let z = expression_text names i in
      let head = codes "tab3 " ++ decimal t in
      let words = Name (codes "tab3") ∷ Number (decimal t) ∷ [] in
      let table : Says head words = says_apart (codes "tab3") (decimal t) (Name (codes "tab3") ∷ []) (Number (decimal t) ∷ []) (says_word (Name (codes "tab3")) refl refl) (says_number t (omega arith)) in
      says_close (head ++ codes " ( " ++ x ++ codes ", " ++ y ++ codes ", " ++ z) (words ++ Sign Open ∷ [] ++ tree_words (tree_at f) ++ Sign Comma ∷ tree_words (tree_at g) ++ Sign Comma ∷ tree_words (tree_at i))
      (says_next (head ++ codes " ( " ++ x ++ codes ", " ++ y) z (words ++ Sign Open ∷ [] ++ tree_words (tree_at f) ++ Sign Comma ∷ tree_words (tree_at g)) (tree_words (tree_at i))
      (says_next (head ++ codes " ( " ++ x) y (words ++ Sign Open ∷ [] ++ tree_words (tree_at f)) (tree_words (tree_at g))
      (says_open head x words (tree_words (tree_at f)) table (says_expression f h.1)) (says_expression g h.2)) (says_expression i h.3))

  -- ---- the tree

  strong : (f : Formula ℕ) → nat_le 6 (level (tree_at f)) ≡ true
  strong (Const b) = refl
  strong (Var k) = refl
  strong (Opposite f) = refl
  strong (Binary t f g) = refl
  strong (Ternary t f g h) = refl

  own_variable : (x : List ℕ) → IsName x → not (is_expression_word x) ≡ true
  own_variable x h = none (bytes_eq x (codes "return")) (bytes_eq x (codes "tab2")) (bytes_eq x (codes "tab3")) (other_word x (codes "return") refl h) (other_word x (codes "tab2") refl h) (other_word x (codes "tab3") refl h)
    where
      none : (a b c : Bool) → a ≡ false → b ≡ false → c ≡ false → not (a || b || c) ≡ true
      none a b c e f g = rw (e, f, g) refl

  grouped : (f : Formula ℕ) → IsFit f → is_grouped (tree_at f) ≡ true
  grouped (Const b) h = refl
  grouped (Var k) h = own_variable (name names k) (name_at names k named h)
  grouped (Opposite f) h = and_from (is_grouped (tree_at f)) (nat_le 6 (level (tree_at f))) (grouped f h) (strong f)
  grouped (Binary t f g) h = and_from (is_grouped (tree_at f)) (is_grouped (tree_at g)) (grouped f h.1) (grouped g h.2)
  grouped (Ternary t f g i) h = all3 (is_grouped (tree_at f)) (is_grouped (tree_at g)) (is_grouped (tree_at i)) (grouped f h.1) (grouped g h.2) (grouped i h.3)
    where
      all3 : (x y z : Bool) → x ≡ true → y ≡ true → z ≡ true → (x && y && z) ≡ true
      all3 x y z e j k = rw (e, j, k) refl

  pub tree_again : OneTree → (f : Formula ℕ) → IsFit f → tree_of (tree_words (tree_at f)) ≡ Some (tree_at f)
  tree_again one f h = (one (tree_words (tree_at f)) (tree_at f)).1 (grouped f h, refl)

  pub value_tree : (f : Formula ℕ) → IsFit f → expression_value names (tree_at f) ≡ f
  value_tree (Const b) h = refl
  value_tree (Var k) h = ap Var (number_named names k once h)
  value_tree (Opposite f) h = ap Opposite (value_tree f h)
  value_tree (Binary t f g) h =
      ap (λ n. Binary n (expression_value names (tree_at f)) (expression_value names (tree_at g))) (number_written t (omega arith))
      ∙ ap₂ (Binary t) (value_tree f h.1) (value_tree g h.2)
  value_tree (Ternary t f g i) h =
      ap (λ n. Ternary n (expression_value names (tree_at f)) (expression_value names (tree_at g)) (expression_value names (tree_at i))) (number_written t (omega arith))
      ∙ ap₂ (λ a b. Ternary t a b (expression_value names (tree_at i))) (value_tree f h.1) (value_tree g h.2)
      ∙ ap (Ternary t f g) (value_tree i h.3)

  tree_depth : (f : Formula ℕ) → depth (tree_at f) ≡ nesting f
  tree_depth (Const b) = refl
  tree_depth (Var k) = refl
  tree_depth (Opposite f) = ap (λ n. n + 1) (tree_depth f)
  tree_depth (Binary t f g) = ap₂ (λ m n. max m n + 1) (tree_depth f) (tree_depth g)
  tree_depth (Ternary t f g h) = ap₂ (λ m n. max m n + 1) (tree_depth f) (ap₂ (λ m n. max m n) (tree_depth g) (tree_depth h))

  pub tree_shallow : (f : Formula ℕ) → nesting f ≤ most_depth → nat_lt most_depth (depth (tree_at f)) ≡ false
  tree_shallow f l = ap (λ n. nat_lt most_depth n) (tree_depth f) ∙ not_more most_depth (nesting f) l

  pub tree_small : (f : Formula ℕ) → IsFit f → has_large_table (tree_at f) ≡ false
  tree_small (Const b) h = refl
  tree_small (Var k) h = refl
  tree_small (Opposite f) h = tree_small f h
  tree_small (Binary t f g) h =
      or_from (nat_lt most_table2 (number_of (decimal t))) (has_large_table (tree_at f) || has_large_table (tree_at g))
      (ap (λ n. nat_lt most_table2 n) (number_written t (omega arith)) ∙ not_more most_table2 t h.0)
      (or_from (has_large_table (tree_at f)) (has_large_table (tree_at g)) (tree_small f h.1) (tree_small g h.2))
  tree_small (Ternary t f g i) h =
      or_from (nat_lt most_table3 (number_of (decimal t))) (has_large_table (tree_at f) || (has_large_table (tree_at g) || has_large_table (tree_at i)))
      (ap (λ n. nat_lt most_table3 n) (number_written t (omega arith)) ∙ not_more most_table3 t h.0)
      (or_from (has_large_table (tree_at f)) (has_large_table (tree_at g) || has_large_table (tree_at i)) (tree_small f h.1)
      (or_from (has_large_table (tree_at g)) (has_large_table (tree_at i)) (tree_small g h.2) (tree_small i h.3)))

  pub tree_known : (f : Formula ℕ) → IsFit f → has_unknown names (tree_variables (tree_at f)) ≡ false
  tree_known (Const b) h = refl
  tree_known (Var k) h = known_more names (name names k) [] (name_among names k h) refl
  tree_known (Opposite f) h = tree_known f h
  tree_known (Binary t f g) h = known_both names (tree_variables (tree_at f)) (tree_variables (tree_at g)) (tree_known f h.1) (tree_known g h.2)
  tree_known (Ternary t f g i) h =
      known_both names (tree_variables (tree_at f)) (tree_variables (tree_at g) ++ tree_variables (tree_at i)) (tree_known f h.1)
      (known_both names (tree_variables (tree_at g)) (tree_variables (tree_at i)) (tree_known g h.2) (tree_known i h.3))

  -- ---- words that stand in no expression

  module _ (test : Word → Bool) (p : Passes test) where
    one_passes : (w : Word) (ws : List Word) → test w ≡ false → has_none test ws ≡ true → has_none test (w ∷ ws) ≡ true
    one_passes w ws h k = and_from (not (test w)) (has_none test ws) (ap not h) k

    pub none_in_tree : (f : Formula ℕ) → IsFit f → has_none test (tree_words (tree_at f)) ≡ true
    none_in_tree (Const b) h = one_passes (Number (digit_of b)) [] (p.number (digit_of b)) refl
    none_in_tree (Var k) h = one_passes (Name (name names k)) [] (p.name (name names k) (name_at names k named h)) refl
    none_in_tree (Opposite f) h = one_passes (Sign Not) (tree_words (tree_at f)) p.inverse (none_in_tree f h)
    none_in_tree (Binary t f g) h =
        let a = tree_words (tree_at f) in
        let b = tree_words (tree_at g) in
        let inner = a ++ Sign Comma ∷ b ++ Sign Close ∷ [] in
        one_passes (Name (codes "tab2")) (Number (decimal t) ∷ Sign Open ∷ inner) p.tab2
        (one_passes (Number (decimal t)) (Sign Open ∷ inner) (p.number (decimal t))
        (one_passes (Sign Open) inner p.open_
        (none_append test (a ++ Sign Comma ∷ b) (Sign Close ∷ [])
        (none_append test a (Sign Comma ∷ b) (none_in_tree f h.1) (one_passes (Sign Comma) b p.comma (none_in_tree g h.2)))
        (one_passes (Sign Close) [] p.close refl))))
    none_in_tree (Ternary t f g i) h =
        let a = tree_words (tree_at f) in
        let b = tree_words (tree_at g) in
        let c = tree_words (tree_at i) in
        let inner = a ++ Sign Comma ∷ b ++ Sign Comma ∷ c ++ Sign Close ∷ [] in
        one_passes (Name (codes "tab3")) (Number (decimal t) ∷ Sign Open ∷ inner) p.tab3
        (one_passes (Number (decimal t)) (Sign Open ∷ inner) (p.number (decimal t))
        (one_passes (Sign Open) inner p.open_
        (none_append test (a ++ Sign Comma ∷ b ++ Sign Comma ∷ c) (Sign Close ∷ [])
        (none_append test (a ++ Sign Comma ∷ b) (Sign Comma ∷ c)
        (none_append test a (Sign Comma ∷ b) (none_in_tree f h.1) (one_passes (Sign Comma) b p.comma (none_in_tree g h.2)))
        (one_passes (Sign Comma) c p.comma (none_in_tree i h.3)))
        (one_passes (Sign Close) [] p.close refl))))

  -- ---- the commas of an expression stand in its brackets

  kept_plain : (w : Word) → is_comma w ≡ false → ((d : ℕ) → brackets_after d w ≡ d) → (ws : List Word) → KeptFrom 0 ws → KeptFrom 0 (w ∷ ws)
  kept_plain w c b ws k = kept_both 0 (w ∷ []) ws (kept_word w c b) k

  pub kept_tree : (f : Formula ℕ) → KeptFrom 0 (tree_words (tree_at f))
  kept_tree (Const b) = kept_word (Number (digit_of b)) refl (λ d. refl)
  kept_tree (Var k) = kept_word (Name (name names k)) refl (λ d. refl)
  kept_tree (Opposite f) = kept_plain (Sign Not) refl (λ d. refl) (tree_words (tree_at f)) (kept_tree f)
  kept_tree (Binary t f g) =
      let a = tree_words (tree_at f) in
      let b = tree_words (tree_at g) in
      kept_plain (Name (codes "tab2")) refl (λ d. refl) (Number (decimal t) ∷ Sign Open ∷ (a ++ Sign Comma ∷ b ++ Sign Close ∷ []))
      (kept_plain (Number (decimal t)) refl (λ d. refl) (Sign Open ∷ (a ++ Sign Comma ∷ b ++ Sign Close ∷ []))
      (kept_bracketed (a ++ Sign Comma ∷ b)
      (kept_both 1 a (Sign Comma ∷ b) (kept_later a (kept_tree f))
      (kept_both 1 (Sign Comma ∷ []) b kept_comma (kept_later b (kept_tree g))))))
  kept_tree (Ternary t f g h) =
      let a = tree_words (tree_at f) in
      let b = tree_words (tree_at g) in
      let c = tree_words (tree_at h) in
      kept_plain (Name (codes "tab3")) refl (λ d. refl) (Number (decimal t) ∷ Sign Open ∷ (a ++ Sign Comma ∷ b ++ Sign Comma ∷ c ++ Sign Close ∷ []))
      (kept_plain (Number (decimal t)) refl (λ d. refl) (Sign Open ∷ (a ++ Sign Comma ∷ b ++ Sign Comma ∷ c ++ Sign Close ∷ []))
      (kept_bracketed (a ++ Sign Comma ∷ b ++ Sign Comma ∷ c)
      (kept_both 1 (a ++ Sign Comma ∷ b) (Sign Comma ∷ c)
      (kept_both 1 a (Sign Comma ∷ b) (kept_later a (kept_tree f))
      (kept_both 1 (Sign Comma ∷ []) b kept_comma (kept_later b (kept_tree g))))
      (kept_both 1 (Sign Comma ∷ []) c kept_comma (kept_later c (kept_tree h))))))
