-- What comes of building the expression that words are, and what is answered on it.
use Rattle.std.proofs.Common.{◌≡◌, ℕ, ◌+◌, ◌<◌, ◌≤◌, ◌⊎◌, Bool, true, false, not, ◌||◌, cond, List, [], ◌∷◌, ◌++◌, map, length, append_assoc, Option, Some, None, IfSome, option_map, refl, sym, ap, ap₂, ◌∙◌, ◌&&◌, subst, arith, inl, inr}
use Rattle.std.proofs.lemmas.List.{length-append}
use Rattle.std.specs.Prelude.{Result, Ok, Err, slice_index_or, filter}
use Rattle.std.specs.List.{list_all}
use Rattle.wpds_port.specs.declared.Word.{Word}
use Rattle.wpds_port.specs.Tokens.{word_text, is_lawful_word}
use Rattle.truth_tables.specs.Formulas.{Formula, is_over}
use Rattle.truth_tables.specs.Grammar.{Tree, depth, has_large_table, formula_of, is_variable_word, IsExpression}
use Rattle.truth_tables.specs.Stacks.{Reading, Wants, next_reading, at_end, tree_from, tree_of}
use Rattle.truth_tables.specs.Texts.{IsAnswer, named}
use Rattle.truth_tables.specs.private.Depths.{least_of}
use Rattle.truth_tables.specs.private.Shapes.{Shape, next_shape, large_at, is_whole, shape_of, large_in}
use Rattle.truth_tables.specs.private.Kept.{all_named, IsPlaceOf, IsAt, IsExcess, IsStep, IsStepping, IsEnd, IsEnding, IsNextPlace, variables_among, IsBuilding, IsBegun, unbuilt_answer}
use Rattle.truth_tables.specs.declared.stop.Stop.{Stop}
use Rattle.truth_tables.specs.declared.stop.Stop.TheVariants.{Form, Excess, Memory}
use Rattle.truth_tables.specs.declared.reader.OpenPart.{OpenPart}
use Rattle.truth_tables.specs.declared.reader.Position.{Position}
use Rattle.truth_tables.specs.declared.reader.Position.TheVariants.{Wanted}
use Rattle.truth_tables.specs.declared.reading.ExprRead.TheVariants.{Read, Form as FormAnswer}
use Rattle.truth_tables.proofs.DepthLemmas.{tree_more}
use Rattle.truth_tables.proofs.ShapeLemmas.{step_seen, whole_so, with_large, ended, Seen, seen}
use Rattle.truth_tables.proofs.Readings.{is_tree}
use Rattle.truth_tables.proofs.VariableLemmas.{variables_in_order}

-- ---- a table number that is too large stays so

-- what is read next has such a table number too
abbrev StaysLarge : Option Reading → Type 0
StaysLarge o = IfSome o (λ q. large_in q ≡ true)

step_large : (r : Reading) (w : Word) → large_in r ≡ true → StaysLarge (next_reading r w)
step_large r w h = go (next_shape (shape_of r).0 (shape_of r).1 w) (next_reading r w) (ap (λ b. with_large (b || large_at (shape_of r).1 w) (next_shape (shape_of r).0 (shape_of r).1 w)) (sym h) ∙ step_seen r w)
  where
    go : (s : Option Shape) (o : Option Reading) → with_large true s ≡ option_map seen o → StaysLarge o
    go s None i = tt
    go None (Some q) i = cc
    go (Some s) (Some q) i = let same : (s, true) ≡ seen q = cc in sym (ap (λ (x : Seen). x.1) same)

end_large : (r : Reading) → large_in r ≡ true → IfSome (at_end r) (λ e. has_large_table e ≡ true)
end_large r h = go (is_whole (shape_of r)) (at_end r) (ap (ended (is_whole (shape_of r))) (sym h) ∙ whole_so r)
  where
    go : (b : Bool) (o : Option Tree) → ended b true ≡ option_map has_large_table o → IfSome o (λ e. has_large_table e ≡ true)
    go b None i = tt
    go true (Some e) i = cc
    go false (Some e) i = cc

tree_large : (r : Reading) (ws : List Word) → large_in r ≡ true → IfSome (tree_from r ws) (λ e. has_large_table e ≡ true)
tree_large r [] h = end_large r h
tree_large r (w ∷ ws) h = go (next_reading r w) (step_large r w h) (λ q i. tree_large q ws i)
  where
    go : (n : Option Reading) → StaysLarge n → ((q : Reading) → large_in q ≡ true → IfSome (tree_from q ws) (λ e. has_large_table e ≡ true))
        → IfSome (elim n [ None ↦ None | Some q ↦ tree_from q ws ]) (λ e. has_large_table e ≡ true)
    go None i f = tt
    go (Some q) i f = f q i

-- ---- what is left to read

-- an expression that is not to be read, if any
abbrev IsUnread : ℕ → Option Tree → Type 0
IsUnread limit o = IfSome o (λ e. (limit < depth e) ⊎ (has_large_table e ≡ true))

unread : (limit : ℕ) (r : Reading) (ws : List Word) → IsExcess limit r → IsUnread limit (tree_from r ws)
unread limit r ws (inl h) = go (tree_from r ws) (tree_more r ws)
  where
    go : (o : Option Tree) → IfSome o (λ e. least_of r ≤ depth e) → IsUnread limit o
    go None i = tt
    go (Some e) i = let deep : limit < depth e = omega (arith, h, i) in inl deep
unread limit r ws (inr h) = go (tree_from r ws) (tree_large r ws h)
  where
    go : (o : Option Tree) → IfSome o (λ e. has_large_table e ≡ true) → IsUnread limit o
    go None i = tt
    go (Some e) i = inr i

abbrev onward : Option Reading → List Word → Option Tree
onward o ws = elim o [ None ↦ None | Some q ↦ tree_from q ws ]

-- the names among words, one more
names_more : (w : Word) (ws : List Word) → variables_among (w ∷ ws) ≡ cond (is_variable_word w) (word_text w ∷ variables_among ws) (variables_among ws)
names_more w ws = go (is_variable_word w)
  where
    go : (b : Bool) → map word_text (cond b (w ∷ filter is_variable_word ws) (filter is_variable_word ws)) ≡ cond b (word_text w ∷ variables_among ws) (variables_among ws)
    go true = refl
    go false = refl

at_seam : (xs ys : List (List ℕ)) (y : List ℕ) → slice_index_or (xs ++ y ∷ ys) (length xs) [] ≡ y
at_seam [] ys y = refl
at_seam (x ∷ xs) ys y = at_seam xs ys y

pub at_first : (limit : ℕ) (ws : List Word) (now : List OpenPart) (fs : List (Formula ℕ)) → now ≡ [] → fs ≡ [] → IsBegun limit ws Wanted 0 ws now fs
at_first limit ws now fs none empty =
    subst (λ xs. IsBegun limit ws Wanted 0 ws xs fs) (sym none)
    (subst (λ gs. IsBegun limit ws Wanted 0 ws [] gs) (sym empty)
    (record {
      reading = Wants [];
      at = ([], refl, record { opened = refl; built = record { same = refl; over = refl }; small = refl });
      leads = refl;
      seen = [];
      names_are = refl;
      place_is = refl;
    }))

module _ (limit : ℕ) (ws : List Word) (p : Position) (place : ℕ) (left rest : List Word) (w : Word) (old now : List OpenPart) (fs gs : List (Formula ℕ)) (begun : IsBegun limit ws p place left old fs) (first : left ≡ w ∷ rest) where
  abbrev names : List (List ℕ)
  names = variables_among ws

  -- the place of the word among the variables
  told : is_variable_word w ≡ true → IsPlaceOf names place (word_text w)
  told is =
      let more = begun.names_are ∙ ap (λ x. begun.seen ++ variables_among x) first ∙ ap (λ x. begun.seen ++ x) (names_more w rest ∙ ap (λ b. cond b (word_text w ∷ variables_among rest) (variables_among rest)) is) in
      let many : length names ≡ length begun.seen + length (word_text w ∷ variables_among rest) = ap length more ∙ length-append begun.seen (word_text w ∷ variables_among rest) in
      (omega (arith, begun.place_is, many), ap₂ (λ xs k. slice_index_or xs k []) more begun.place_is ∙ at_seam begun.seen (variables_among rest) (word_text w))

  leads_on : onward (next_reading begun.reading w) rest ≡ tree_of ws
  leads_on = sym (ap (tree_from begun.reading) first) ∙ begun.leads

  pub word_more : (q : Position) (next : ℕ) → IsStepping limit p w place old fs (Ok q) now gs → IsNextPlace place (is_variable_word w) (Ok next) → IsBegun limit ws q next rest now gs
  word_more q next h i =
      let step = h names begun.reading begun.at told in
      let leads = ap (λ o. onward o rest) (sym step.1) ∙ leads_on in
      go (is_variable_word w) refl i step.0 step.2 leads
    where
      more : begun.seen ++ variables_among (w ∷ rest) ≡ names
      more = sym (begun.names_are ∙ ap (λ x. begun.seen ++ variables_among x) first)

      go : (b : Bool) → is_variable_word w ≡ b → IsNextPlace place b (Ok next) → (r : Reading) → IsAt limit names r q now gs → tree_from r rest ≡ tree_of ws → IsBegun limit ws q next rest now gs
      go true is i r at leads =
          let same = names_more w rest ∙ ap (λ b. cond b (word_text w ∷ variables_among rest) (variables_among rest)) is in
          record {
            reading = r;
            at = at;
            leads = leads;
            seen = begun.seen ++ word_text w ∷ [];
            names_are = sym more ∙ ap (λ x. begun.seen ++ x) same ∙ sym (append_assoc begun.seen (word_text w ∷ []) (variables_among rest));
            place_is = omega (arith, i, begun.place_is, length-append begun.seen (word_text w ∷ []));
          }
      go false is i r at leads =
          let same = names_more w rest ∙ ap (λ b. cond b (word_text w ∷ variables_among rest) (variables_among rest)) is in
          record { reading = r; at = at; leads = leads; seen = begun.seen; names_are = sym more ∙ ap (λ x. begun.seen ++ x) same; place_is = i ∙ begun.place_is }

  pub word_stops : (s : Stop) → IsStepping limit p w place old fs (Err s) now gs → IsBuilding limit ws (Err s)
  word_stops s h = go s (h names begun.reading begun.at told)
    where
      go : (s : Stop) → IsStep limit names (next_reading begun.reading w) (Err s) now gs → IsBuilding limit ws (Err s)
      go Form step = sym leads_on ∙ ap (λ o. onward o rest) step
      go Memory step = tt
      go Excess step = subst (IsUnread limit) leads_on (excess (next_reading begun.reading w) step)
        where
          excess : (o : Option Reading) → IfSome o (IsExcess limit) → IsUnread limit (onward o rest)
          excess None i = tt
          excess (Some q) i = unread limit q rest i

pub no_place : (limit : ℕ) (ws : List Word) (place : ℕ) (b : Bool) (s : Stop) → IsNextPlace place b (Err s) → IsBuilding limit ws (Err s)
no_place limit ws place true s h = subst (λ x. IsBuilding limit ws (Err x)) (sym h) tt
no_place limit ws place false s h = subst (λ x. IsBuilding limit ws (Err x)) (sym h) tt

pub at_last : (limit : ℕ) (ws : List Word) (p : Position) (place : ℕ) (left : List Word) (old : List OpenPart) (fs : List (Formula ℕ)) (result : Result (List (Formula ℕ)) Stop)
    → IsBegun limit ws p place left old fs → left ≡ [] → IsEnding limit p old fs result → IsBuilding limit ws result
at_last limit ws p place left old fs result begun none h =
    go result (subst (λ o. IsEnd limit (variables_among ws) o result) (sym (ap (tree_from begun.reading) none) ∙ begun.leads) (h (variables_among ws) begun.reading begun.at))
  where
    go : (result : Result (List (Formula ℕ)) Stop) → IsEnd limit (variables_among ws) (tree_of ws) result → IsBuilding limit ws result
    go (Ok gs) i = i
    go (Err Form) i = i
    go (Err Memory) i = tt
    go (Err Excess) i = deep (tree_of ws) i
      where
        deep : (o : Option Tree) → IfSome o (λ e. limit < depth e) → IsUnread limit o
        deep None j = tt
        deep (Some e) j = inl j

-- ---- answers

pub answer_form : (limit : ℕ) (ws : List Word) → tree_of ws ≡ None → IsAnswer ws limit FormAnswer
answer_form limit ws h e x = go (tree_of ws) ((is_tree ws e).1 x.1) h
  where
    go : (o : Option Tree) → o ≡ Some e → o ≡ None → ⊥
    go None is i = cc
    go (Some e) is i = cc

pub answer_read : (limit : ℕ) (ws : List Word) (fs : List (Formula ℕ)) → list_all is_lawful_word ws ≡ true → IsBuilding limit ws (Ok fs) → IsAnswer ws limit (Read fs)
answer_read limit ws fs lawful h =
    let e = h.0 in
    let is : IsExpression ws e = (lawful, (is_tree ws e).0 h.1) in
    let small : not (has_large_table e) ≡ true = ap not h.2 in
    (e, is, small, h.3, subst (λ names. IsFormula names) (sym (variables_in_order ws e is)) (go fs h.4.same h.4.over))
  where
    IsFormula : List (List ℕ) → Type 0
    IsFormula names = (f : Formula ℕ) × (fs ≡ f ∷ []) × (named names f ≡ formula_of h.0) × (is_over (length names) f ≡ true)

    go : (gs : List (Formula ℕ)) → formula_of h.0 ∷ [] ≡ all_named (variables_among ws) gs → list_all (is_over (length (variables_among ws))) gs ≡ true
        → (f : Formula ℕ) × (gs ≡ f ∷ []) × (named (variables_among ws) f ≡ formula_of h.0) × (is_over (length (variables_among ws)) f ≡ true)
    go [] same over = cc
    go (f ∷ []) same over = let is : named (variables_among ws) f ≡ formula_of h.0 = cc in (f, refl, is, over_one (is_over (length (variables_among ws)) f) over)
      where
        over_one : (b : Bool) → b && true ≡ true → b ≡ true
        over_one true i = refl
        over_one false i = cc
    go (f ∷ g ∷ gs) same over = cc

pub answer_unbuilt : (limit : ℕ) (ws : List Word) (o : Option Bool) → list_all is_lawful_word ws ≡ true → IsBuilding limit ws (Err Excess) → o ≡ option_map has_large_table (tree_of ws) → IsAnswer ws limit (unbuilt_answer o)
answer_unbuilt limit ws o lawful h is = go o (tree_of ws) refl h is
  where
    go : (o : Option Bool) (t : Option Tree) → tree_of ws ≡ t → IsUnread limit t → o ≡ option_map has_large_table t → IsAnswer ws limit (unbuilt_answer o)
    go None None at h i = answer_form limit ws at
    go None (Some e) at h i = cc
    go (Some b) None at h i = cc
    go (Some true) (Some e) at h i = let large : has_large_table e ≡ true = cc in (e, (lawful, (is_tree ws e).0 at), large)
    go (Some false) (Some e) at h i = let small : has_large_table e ≡ false = cc in (e, (lawful, (is_tree ws e).0 at), ap not small, deep h small)
      where
        deep : (limit < depth e) ⊎ (has_large_table e ≡ true) → has_large_table e ≡ false → limit < depth e
        deep (inl j) k = j
        deep (inr j) k = cc
