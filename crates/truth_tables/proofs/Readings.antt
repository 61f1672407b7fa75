-- What is read as a tree is what that tree writes.
use Rattle.std.proofs.Common.{◌≡◌, ℕ, ◌+◌, ◌<◌, ◌≤◌, Bool, true, false, ◌&&◌, List, [], ◌∷◌, ◌++◌, Option, Some, None, IfSome, ◌↔◌, option_map, cond, refl, sym, ap, ◌∙◌, subst, arith, append-nil, append_assoc}
use Rattle.std.proofs.lemmas.Bool.{and_from, leb-true, le-leb, leb-false}
use Rattle.std.proofs.lemmas.Slice.Eq.{bytes_eq-Decides}
use Rattle.std.specs.Prelude.{codes, nat_le, bytes_eq}
use Rattle.wpds_port.specs.declared.Mark.{Mark}
use Rattle.wpds_port.specs.declared.Mark.TheVariants.{Comma, Close, Open, Not, Implies, Equal, Differs, Or, Xor, And}
use Rattle.wpds_port.specs.declared.Word.{Word}
use Rattle.wpds_port.specs.declared.Word.TheVariants.{Name, Number, Mark as Sign}
use Rattle.truth_tables.specs.Grammar.{Operator, ThenOperator, SameOperator, OtherOperator, OrOperator, XorOperator, AndOperator, operator_mark, operator_level, least_left, least_right, level, Tree, Constant, Variable, Inverse, Two, tree_words, is_grouped, Writes}
use Rattle.truth_tables.specs.Stacks.{Pending, AfterNot, AfterOperator, InBracket, First2, Second2, First3, Second3, Third3, Reading, Wants, Has, Word2, Word3, Number2, Number3, joined, after_operator, behind_operand, next_reading, tree_from, tree_of, at_end, at_name, at_comma, at_close, alone}
use Rattle.truth_tables.proofs.Trees.{TopBelow, Takes, least_left_bounds, least_right_bounds, tree_of-words}

-- ---- the words that a reading has met

abbrev pub stack_words : List Pending → List Word
stack_words [] = []
stack_words (AfterNot ∷ ps) = stack_words ps ++ Sign Not ∷ []
stack_words (AfterOperator o a ∷ ps) = stack_words ps ++ (tree_words a ++ Sign (operator_mark o) ∷ [])
stack_words (InBracket ∷ ps) = stack_words ps ++ Sign Open ∷ []
stack_words (First2 n ∷ ps) = stack_words ps ++ Name (codes "tab2") ∷ Number n ∷ Sign Open ∷ []
stack_words (Second2 n a ∷ ps) = stack_words ps ++ Name (codes "tab2") ∷ Number n ∷ Sign Open ∷ (tree_words a ++ Sign Comma ∷ [])
stack_words (First3 n ∷ ps) = stack_words ps ++ Name (codes "tab3") ∷ Number n ∷ Sign Open ∷ []
stack_words (Second3 n a ∷ ps) = stack_words ps ++ Name (codes "tab3") ∷ Number n ∷ Sign Open ∷ (tree_words a ++ Sign Comma ∷ [])
stack_words (Third3 n a b ∷ ps) = stack_words ps ++ Name (codes "tab3") ∷ Number n ∷ Sign Open ∷ (tree_words a ++ Sign Comma ∷ (tree_words b ++ Sign Comma ∷ []))

abbrev pub reading_words : Reading → List Word
reading_words (Wants ps) = stack_words ps
reading_words (Word2 ps) = stack_words ps ++ Name (codes "tab2") ∷ []
reading_words (Word3 ps) = stack_words ps ++ Name (codes "tab3") ∷ []
reading_words (Number2 ps n) = stack_words ps ++ Name (codes "tab2") ∷ Number n ∷ []
reading_words (Number3 ps n) = stack_words ps ++ Name (codes "tab3") ∷ Number n ∷ []
reading_words (Has ps e) = stack_words ps ++ tree_words e

abbrev pub IsStack : List Pending → Type 0
IsStack [] = Unit {0}
IsStack (AfterNot ∷ ps) = IsStack ps
IsStack (AfterOperator o a ∷ ps) = (is_grouped a ≡ true) × (least_left o ≤ level a) × TopBelow (least_left o) ps × IsStack ps
IsStack (InBracket ∷ ps) = IsStack ps
IsStack (First2 n ∷ ps) = IsStack ps
IsStack (Second2 n a ∷ ps) = (is_grouped a ≡ true) × IsStack ps
IsStack (First3 n ∷ ps) = IsStack ps
IsStack (Second3 n a ∷ ps) = (is_grouped a ≡ true) × IsStack ps
IsStack (Third3 n a b ∷ ps) = (is_grouped a ≡ true) × (is_grouped b ≡ true) × IsStack ps

abbrev pub IsReading : Reading → Type 0
IsReading (Wants ps) = IsStack ps
IsReading (Word2 ps) = IsStack ps
IsReading (Word3 ps) = IsStack ps
IsReading (Number2 ps n) = IsStack ps
IsReading (Number3 ps n) = IsStack ps
IsReading (Has ps e) = IsStack ps × (is_grouped e ≡ true) × (level e ≡ 7)

-- ---- joining

pub record IsJoined (k : ℕ) (words : List Word) (r : List Pending × Tree) : Type 0 where
  pub same : stack_words r.0 ++ tree_words r.1 ≡ words
  pub stack : IsStack r.0
  pub grouped : is_grouped r.1 ≡ true
  pub top : TopBelow k r.0
  pub least : k ≤ level r.1

takes_inverse : (ps : List Pending) → Takes ps 6
takes_inverse [] = tt
takes_inverse (AfterNot ∷ ps) = omega arith
takes_inverse (AfterOperator o a ∷ ps) = let h = least_right_bounds o in omega arith
takes_inverse (InBracket ∷ ps) = tt
takes_inverse (First2 n ∷ ps) = tt
takes_inverse (Second2 n a ∷ ps) = tt
takes_inverse (First3 n ∷ ps) = tt
takes_inverse (Second3 n a ∷ ps) = tt
takes_inverse (Third3 n a b ∷ ps) = tt

takes_atom : (ps : List Pending) → Takes ps 7
takes_atom [] = tt
takes_atom (AfterNot ∷ ps) = omega arith
takes_atom (AfterOperator o a ∷ ps) = let h = least_right_bounds o in omega arith
takes_atom (InBracket ∷ ps) = tt
takes_atom (First2 n ∷ ps) = tt
takes_atom (Second2 n a ∷ ps) = tt
takes_atom (First3 n ∷ ps) = tt
takes_atom (Second3 n a ∷ ps) = tt
takes_atom (Third3 n a b ∷ ps) = tt

right_step : (p : Operator) → least_right p ≤ operator_level p + 1
right_step ThenOperator = omega arith
right_step SameOperator = omega arith
right_step OtherOperator = omega arith
right_step OrOperator = omega arith
right_step XorOperator = omega arith
right_step AndOperator = omega arith

weakest : (p : Operator) → operator_level p < 2 → least_right p ≤ 1
weakest ThenOperator h = omega arith
weakest SameOperator h = omega arith
weakest OtherOperator h = omega arith
weakest OrOperator h = omega arith
weakest XorOperator h = omega arith
weakest AndOperator h = omega arith

-- the other way round from `not_closed`
closes : (p o : Operator) → operator_level p < least_left o → least_right p ≤ operator_level o
closes p ThenOperator h = weakest p h
closes p SameOperator h = let b = right_step p in omega arith
closes p OtherOperator h = let b = right_step p in omega arith
closes p OrOperator h = let b = right_step p in omega arith
closes p XorOperator h = let b = right_step p in omega arith
closes p AndOperator h = let b = right_step p in omega arith

takes_two : (ps : List Pending) (o : Operator) → TopBelow (least_left o) ps → Takes ps (operator_level o)
takes_two [] o t = tt
takes_two (AfterNot ∷ ps) o t = absurd t
takes_two (AfterOperator p a ∷ ps) o t = closes p o t
takes_two (InBracket ∷ ps) o t = tt
takes_two (First2 n ∷ ps) o t = tt
takes_two (Second2 n a ∷ ps) o t = tt
takes_two (First3 n ∷ ps) o t = tt
takes_two (Second3 n a ∷ ps) o t = tt
takes_two (Third3 n a b ∷ ps) o t = tt

grouped_two : (o : Operator) (a b : Tree) → is_grouped a ≡ true → is_grouped b ≡ true → least_left o ≤ level a → least_right o ≤ level b → is_grouped (Two o a b) ≡ true
grouped_two o a b g h l m = rw (g, h, le-leb (least_left o) (level a) l, le-leb (least_right o) (level b) m) refl

pub joins : (k : ℕ) (ps : List Pending) (e : Tree) → k ≤ 6 → k ≤ level e → IsStack ps → is_grouped e ≡ true → Takes ps (level e) → IsJoined k (stack_words ps ++ tree_words e) (joined k ps e)
joins k [] e s l v g t = record { same = refl; stack = tt; grouped = g; top = tt; least = l }
joins k (AfterNot ∷ ps) e s l v g t =
    let h = joins k ps (Inverse e) s s v (and_from (is_grouped e) (nat_le 6 (level e)) g (le-leb 6 (level e) t)) (takes_inverse ps) in
    record { same = h.same ∙ sym (append_assoc (stack_words ps) (Sign Not ∷ []) (tree_words e)); stack = h.stack; grouped = h.grouped; top = h.top; least = h.least }
joins k (AfterOperator o a ∷ ps) e s l v g t =
    go (nat_le k (operator_level o)) refl (λ m. joins k ps (Two o a e) s m v.3 (grouped_two o a e v.0 g v.1 t) (takes_two ps o v.2))
  where
    go : (b : Bool) → nat_le k (operator_level o) ≡ b → (k ≤ operator_level o → IsJoined k (stack_words ps ++ tree_words (Two o a e)) (joined k ps (Two o a e)))
        → IsJoined k (stack_words (AfterOperator o a ∷ ps) ++ tree_words e) (elim b [ true ↦ joined k ps (Two o a e) | false ↦ (AfterOperator o a ∷ ps, e) ])
    go true q more =
        let h = more (leb-true k (operator_level o) q) in
        record {
          same = h.same ∙ sym (append_assoc (stack_words ps) (tree_words a ++ Sign (operator_mark o) ∷ []) (tree_words e) ∙ ap (λ x. stack_words ps ++ x) (append_assoc (tree_words a) (Sign (operator_mark o) ∷ []) (tree_words e)));
          stack = h.stack;
          grouped = h.grouped;
          top = h.top;
          least = h.least;
        }
    go false q more = record { same = refl; stack = v; grouped = g; top = leb-false k (operator_level o) q; least = l }
joins k (InBracket ∷ ps) e s l v g t = record { same = refl; stack = v; grouped = g; top = tt; least = l }
joins k (First2 n ∷ ps) e s l v g t = record { same = refl; stack = v; grouped = g; top = tt; least = l }
joins k (Second2 n a ∷ ps) e s l v g t = record { same = refl; stack = v; grouped = g; top = tt; least = l }
joins k (First3 n ∷ ps) e s l v g t = record { same = refl; stack = v; grouped = g; top = tt; least = l }
joins k (Second3 n a ∷ ps) e s l v g t = record { same = refl; stack = v; grouped = g; top = tt; least = l }
joins k (Third3 n a b ∷ ps) e s l v g t = record { same = refl; stack = v; grouped = g; top = tt; least = l }

-- ---- a word more

if_some : {A : Type 0} {P Q : A → Type 0} (o : Option A) → ((a : A) → P a → Q a) → IfSome o P → IfSome o Q
if_some None f h = tt
if_some (Some a) f h = f a h

abbrev pub Goes : Reading → Word → Reading → Type 0
Goes r w q = IsReading q × (reading_words q ≡ reading_words r ++ w ∷ [])

same_name : (x y : List ℕ) → bytes_eq x y ≡ true → x ≡ y
same_name x y h = (bytes_eq-Decides x y).0 h

name_goes : (ps : List Pending) (x : List ℕ) → IsStack ps → IfSome (at_name ps x) (Goes (Wants ps) (Name x))
name_goes ps x v = go (bytes_eq x (codes "return")) (bytes_eq x (codes "tab2")) (bytes_eq x (codes "tab3")) refl refl refl
  where
    go : (r s t : Bool) → bytes_eq x (codes "return") ≡ r → bytes_eq x (codes "tab2") ≡ s → bytes_eq x (codes "tab3") ≡ t
        → IfSome (cond r None (cond s (Some (Word2 ps)) (cond t (Some (Word3 ps)) (Some (Has ps (Variable x)))))) (Goes (Wants ps) (Name x))
    go true s t a b c = tt
    go false true t a b c = (v, ap (λ y. stack_words ps ++ Name y ∷ []) (sym (same_name x (codes "tab2") b)))
    go false false true a b c = (v, ap (λ y. stack_words ps ++ Name y ∷ []) (sym (same_name x (codes "tab3") c)))
    go false false false a b c = ((v, rw (a, b, c) refl, refl), refl)

number_goes : (ps : List Pending) (n : List ℕ) → IsStack ps → IfSome (next_reading (Wants ps) (Number n)) (Goes (Wants ps) (Number n))
number_goes ps n v = go (bytes_eq n (codes "0")) (bytes_eq n (codes "1")) refl refl
  where
    go : (r s : Bool) → bytes_eq n (codes "0") ≡ r → bytes_eq n (codes "1") ≡ s
        → IfSome (option_map (λ b. Has ps (Constant b)) (cond r (Some false) (cond s (Some true) None))) (Goes (Wants ps) (Number n))
    go true s a b = ((v, refl, refl), ap (λ y. stack_words ps ++ Number y ∷ []) (sym (same_name n (codes "0") a)))
    go false true a b = ((v, refl, refl), ap (λ y. stack_words ps ++ Number y ∷ []) (sym (same_name n (codes "1") b)))
    go false false a b = tt

-- behind an operand, where what is open is joined
operator_goes : (o : Operator) (ps : List Pending) (e : Tree) → IsReading (Has ps e) → Goes (Has ps e) (Sign (operator_mark o)) (after_operator o (joined (least_left o) ps e))
operator_goes o ps e h =
    let b = least_left_bounds o in
    let t : Takes ps (level e) = subst (λ l. Takes ps l) (sym h.2) (takes_atom ps) in
    let j = joins (least_left o) ps e (omega arith) (omega arith) h.0 h.1 t in
    let r = joined (least_left o) ps e in
    ((j.grouped, j.least, j.top, j.stack), sym (append_assoc (stack_words r.0) (tree_words r.1) (Sign (operator_mark o) ∷ [])) ∙ ap (λ x. x ++ Sign (operator_mark o) ∷ []) j.same)

comma_goes : (ps : List Pending) (e : Tree) → IsStack ps → is_grouped e ≡ true → IfSome (at_comma ps e) (λ q. IsReading q × (reading_words q ≡ (stack_words ps ++ tree_words e) ++ Sign Comma ∷ []))
comma_goes (First2 n ∷ ps) e v g = ((g, v), simp append_assoc)
comma_goes (First3 n ∷ ps) e v g = ((g, v), simp append_assoc)
comma_goes (Second3 n a ∷ ps) e v g = ((v.0, g, v.1), simp append_assoc)
comma_goes _ e v g = tt

close_goes : (ps : List Pending) (e : Tree) → IsStack ps → is_grouped e ≡ true → IfSome (at_close ps e) (λ q. IsReading q × (reading_words q ≡ (stack_words ps ++ tree_words e) ++ Sign Close ∷ []))
close_goes (InBracket ∷ ps) e v g = ((v, g, refl), simp append_assoc)
close_goes (Second2 n a ∷ ps) e v g = ((v.1, and_from (is_grouped a) (is_grouped e) v.0 g, refl), simp append_assoc)
close_goes (Third3 n a b ∷ ps) e v g = ((v.2, and_from (is_grouped a && is_grouped b) (is_grouped e) (and_from (is_grouped a) (is_grouped b) v.0 v.1) g, refl), simp append_assoc)
close_goes _ e v g = tt

behind_goes : (m : Mark) (ps : List Pending) (e : Tree) → IsReading (Has ps e) → IfSome (behind_operand m ps e) (Goes (Has ps e) (Sign m))
behind_goes Comma ps e h =
    let t : Takes ps (level e) = subst (λ l. Takes ps l) (sym h.2) (takes_atom ps) in
    let j = joins 1 ps e (omega arith) (omega arith) h.0 h.1 t in
    let r = joined 1 ps e in
    if_some (at_comma r.0 r.1) (λ q g. (g.0, g.1 ∙ ap (λ x. x ++ Sign Comma ∷ []) j.same)) (comma_goes r.0 r.1 j.stack j.grouped)
behind_goes Close ps e h =
    let t : Takes ps (level e) = subst (λ l. Takes ps l) (sym h.2) (takes_atom ps) in
    let j = joins 1 ps e (omega arith) (omega arith) h.0 h.1 t in
    let r = joined 1 ps e in
    if_some (at_close r.0 r.1) (λ q g. (g.0, g.1 ∙ ap (λ x. x ++ Sign Close ∷ []) j.same)) (close_goes r.0 r.1 j.stack j.grouped)
behind_goes Implies ps e h = operator_goes ThenOperator ps e h
behind_goes Equal ps e h = operator_goes SameOperator ps e h
behind_goes Differs ps e h = operator_goes OtherOperator ps e h
behind_goes Or ps e h = operator_goes OrOperator ps e h
behind_goes Xor ps e h = operator_goes XorOperator ps e h
behind_goes And ps e h = operator_goes AndOperator ps e h
behind_goes _ ps e h = tt

-- a word leads to a reading of the words with it
pub goes : (r : Reading) (w : Word) → IsReading r → IfSome (next_reading r w) (Goes r w)
goes (Wants ps) (Name x) v = name_goes ps x v
goes (Wants ps) (Number n) v = number_goes ps n v
goes (Wants ps) (Sign Not) v = (v, refl)
goes (Wants ps) (Sign Open) v = (v, refl)
goes (Word2 ps) (Number n) v = (v, sym (append_assoc (stack_words ps) (Name (codes "tab2") ∷ []) (Number n ∷ [])))
goes (Word3 ps) (Number n) v = (v, sym (append_assoc (stack_words ps) (Name (codes "tab3") ∷ []) (Number n ∷ [])))
goes (Number2 ps n) (Sign Open) v = (v, sym (append_assoc (stack_words ps) (Name (codes "tab2") ∷ Number n ∷ []) (Sign Open ∷ [])))
goes (Number3 ps n) (Sign Open) v = (v, sym (append_assoc (stack_words ps) (Name (codes "tab3") ∷ Number n ∷ []) (Sign Open ∷ [])))
goes (Has ps e) (Sign m) v = behind_goes m ps e v
goes _ _ v = tt

ends_alone : (ws : List Word) (r : List Pending × Tree) → IsJoined 1 ws r → IfSome (alone r.0 r.1) (λ e. Writes e ws)
ends_alone ws r j = go r.0 r.1 j.grouped j.same
  where
    go : (ps : List Pending) (e : Tree) → is_grouped e ≡ true → stack_words ps ++ tree_words e ≡ ws → IfSome (alone ps e) (λ e. Writes e ws)
    go [] e g same = (g, same)
    go (p ∷ ps) e g same = tt

ends : (r : Reading) → IsReading r → IfSome (at_end r) (λ e. Writes e (reading_words r))
ends (Has ps e) h =
    let t : Takes ps (level e) = subst (λ l. Takes ps l) (sym h.2) (takes_atom ps) in
    ends_alone (stack_words ps ++ tree_words e) (joined 1 ps e) (joins 1 ps e (omega arith) (omega arith) h.0 h.1 t)
ends _ h = tt

pub read_words : (r : Reading) (ws : List Word) → IsReading r → IfSome (tree_from r ws) (λ e. Writes e (reading_words r ++ ws))
read_words r [] v = if_some (at_end r) (λ e h. (h.0, h.1 ∙ sym (append-nil (reading_words r)))) (ends r v)
read_words r (w ∷ ws) v = go (next_reading r w) (goes r w v) (λ q. read_words q ws)
  where
    go : (o : Option Reading) → IfSome o (Goes r w) → ((q : Reading) → IsReading q → IfSome (tree_from q ws) (λ e. Writes e (reading_words q ++ ws)))
        → IfSome (elim o [ None ↦ None | Some q ↦ tree_from q ws ]) (λ e. Writes e (reading_words r ++ w ∷ ws))
    go None h more = tt
    go (Some q) h more = if_some (tree_from q ws) (λ e k. (k.0, k.1 ∙ ap (λ x. x ++ ws) h.1 ∙ append_assoc (reading_words r) (w ∷ []) ws)) (more q h.0)

-- what is read is grouped, and written so
pub words-tree_of : (ws : List Word) → IfSome (tree_of ws) (λ e. Writes e ws)
words-tree_of ws = read_words (Wants []) ws tt

-- The words are the expression exactly where it is grouped and writes them.
pub is_tree : (ws : List Word) (e : Tree) → (tree_of ws ≡ Some e) ↔ Writes e ws
is_tree ws e = (there, back)
  where
    there : tree_of ws ≡ Some e → Writes e ws
    there h = subst (λ o. IfSome o (λ e. Writes e ws)) h (words-tree_of ws)

    back : Writes e ws → tree_of ws ≡ Some e
    back h = subst (λ x. tree_of x ≡ Some e) h.1 (tree_of-words e h.0)
