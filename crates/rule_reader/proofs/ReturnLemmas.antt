-- Return maps by their words.
use Rattle.std.proofs.Common.{◌≡◌, ◌∙◌, ℕ, Bool, true, false, List, [], ◌∷◌, ◌++◌, Option, Some, None, refl, sym, ap, ap₂, subst, option_map, map, cond, append_assoc, append-nil}
use Rattle.std.specs.Prelude.{is_some, not, ◌&&◌, ◌||◌, if◌then◌else◌, flat_map, codes, MatchOption}
use Rattle.std.specs.List.{list_all}
use Rattle.std.proofs.lemmas.Bool.{and_parts, or_parts}
use Rattle.std.proofs.lemmas.List.{map_push}
use Rattle.document_forms.specs.declared.weight.WeightsLine.{WeightsLine}
use Rattle.document_forms.specs.declared.document.MapText.{MapText}
use Rattle.document_forms.specs.Names.{is_among, has_twice, has_unknown}
use Rattle.document_forms.specs.Kinds.{allows_restore, allows_moves, map_names, is_foreign_map}
use Rattle.rule_reader.specs.declared.name_reads.NamesRead.{NamesRead}
use Rattle.rule_reader.specs.declared.returns.MovesRead.{MovesRead}
use Rattle.rule_reader.specs.declared.returns.ReturnRead.{ReturnRead}
use Rattle.std.proofs.lemmas.List.Folds.{list_any-append}
use Rattle.wpds_port.specs.declared.Mark.TheVariants.{Equal}
use Rattle.wpds_port.specs.declared.Word.{Word}
use Rattle.wpds_port.specs.declared.Word.TheVariants.{Name, Number, Mark as Sign}
use Rattle.wpds_port.specs.declared.Lexeme.{Lexeme}
use Rattle.wpds_port.specs.Words.{word_of, same_word, before, behind}
use Rattle.truth_tables.specs.Texts.{is_name}
use Rattle.document_forms.specs.Words.{is_equal, is_move, each, each_of_some, name_of, ◌>>=◌}
use Rattle.document_forms.specs.Returns.{MoveForm, GivenMap, moves_of, moves_behind, restore_of}
use Rattle.document_forms.specs.FormWords.{move_words, is_some_list}
use Rattle.document_forms.proofs.CallerLemmas.{moves_written, written_moves, equal_only}
use Rattle.rule_reader.specs.declared.name_reads.NamesOnce.{NamesOnce}
use Rattle.rule_reader.specs.NameReads.{AreNumbersRead, HasNames}
use Rattle.rule_reader.specs.Names.{names_in_front}
use Rattle.rule_reader.specs.private.Returns.{is_any_name, moves_if_said, map_said, restored_in, moved_in, ends_of, ArePairs, AreMovesRead, IsReadReturn, begins_move, are_pairs, moves_said}

-- ---- names

-- words that are names are these
each_name : (ws : List Word) → list_all is_any_name ws ≡ true → each name_of ws ≡ Some (names_in_front ws)
each_name [] h = refl
each_name (Name x ∷ ws) h = ap (option_map (λ xs. x ∷ xs)) (each_name ws h)
each_name (Number n ∷ ws) h = cc
each_name (Sign m ∷ ws) h = cc

no_name : (ws : List Word) → list_all is_any_name ws ≡ false → each name_of ws ≡ None
no_name [] h = cc
no_name (Name x ∷ ws) h = ap (option_map (λ xs. x ∷ xs)) (no_name ws h)
no_name (Number n ∷ ws) h = refl
no_name (Sign m ∷ ws) h = refl

-- ---- pairs

equal_is : (w : Word) → is_equal w ≡ true → w ≡ Sign Equal
equal_is w h = equal_only w h

pub pairs_are : (ws : List Word) → are_pairs ws ≡ true → (is_some_list (moves_said ws) ≡ true) × (flat_map move_words (moves_said ws) ≡ ws)
pairs_are (Name x ∷ w ∷ Name y ∷ []) h = (refl, ap (λ v. Name x ∷ v ∷ Name y ∷ []) (sym (equal_is w h)))
pairs_are (Name x ∷ w ∷ Name y ∷ v ∷ ws) h =
    let k = and_parts (is_equal w) (are_pairs (v ∷ ws)) h in
    let more = pairs_are (v ∷ ws) k.1 in
    (refl, ap (λ u. Name x ∷ u ∷ Name y ∷ flat_map move_words (moves_said (v ∷ ws))) (sym (equal_is w k.0)) ∙ ap (λ us. Name x ∷ w ∷ Name y ∷ us) more.1)
pairs_are _ h = cc

pairs_of : (ms : List MoveForm) → is_some_list ms ≡ true → are_pairs (flat_map move_words ms) ≡ true
pairs_of [] h = cc
pairs_of (m ∷ []) h = refl
pairs_of (m ∷ n ∷ ms) h = pairs_of (n ∷ ms) refl

-- words are pairs exactly where they are moves
pub moves_are : (ws : List Word) → are_pairs ws ≡ true → moves_of ws ≡ Some (moves_said ws)
moves_are ws h = let p = pairs_are ws h in ap moves_of (sym p.1) ∙ written_moves (moves_said ws) p.0

pub no_moves : (ws : List Word) → are_pairs ws ≡ false → moves_of ws ≡ None
no_moves ws h = go (moves_of ws) refl
  where
    go : (o : Option (List MoveForm)) → moves_of ws ≡ o → o ≡ None
    go None e = refl
    go (Some ms) e =
        let w = moves_written ws ms e in
        let yes : are_pairs ws ≡ true = ap are_pairs (sym w.1) ∙ pairs_of ms w.0 in
        cc

pub pairs_told : (ws : List Word) → are_pairs ws ≡ is_some (moves_of ws)
pairs_told ws = go (are_pairs ws) refl
  where
    go : (t : Bool) → are_pairs ws ≡ t → t ≡ is_some (moves_of ws)
    go true e = sym (ap is_some (moves_are ws e))
    go false e = sym (ap is_some (no_moves ws e))

-- ---- as loops meet them

pub stops_at_no_name : (left ws all : List Word) (w : Word) → left ≡ w ∷ ws → list_all is_any_name left ≡ list_all is_any_name all → false ≡ is_any_name w → false ≡ is_some (each_of_some name_of all)
stops_at_no_name left ws all w e same h = go all (sym same ∙ ap (list_all is_any_name) e ∙ rw (sym h) refl)
  where
    go : (vs : List Word) → list_all is_any_name vs ≡ false → false ≡ is_some (each_of_some name_of vs)
    go [] k = cc
    go (v ∷ vs) k = sym (ap is_some (no_name (v ∷ vs) k))

pub ends_with_names : (left all : List Word) (r : Option (Lexeme × List Word)) → left ≡ [] → list_all is_any_name left ≡ list_all is_any_name all
    → MatchOption r (all ≡ []) (λ p. all ≡ word_of p.0 ∷ p.1) → is_some r ≡ is_some (each_of_some name_of all)
ends_with_names left all None e same h = sym (ap (λ ws. is_some (each_of_some name_of ws)) h)
ends_with_names left all (Some p) e same h =
    let yes : list_all is_any_name (word_of p.0 ∷ p.1) ≡ true = ap (list_all is_any_name) (sym h) ∙ sym same ∙ ap (list_all is_any_name) e in
    sym (ap (λ ws. is_some (each_of_some name_of ws)) h ∙ ap is_some (each_name (word_of p.0 ∷ p.1) yes))

pub names_are : (ws : List Word) → is_some (each_of_some name_of ws) ≡ true → each_of_some name_of ws ≡ Some (names_in_front ws)
names_are [] h = cc
names_are (w ∷ ws) h = go (list_all is_any_name (w ∷ ws)) refl
  where
    go : (t : Bool) → list_all is_any_name (w ∷ ws) ≡ t → each name_of (w ∷ ws) ≡ Some (names_in_front (w ∷ ws))
    go true e = each_name (w ∷ ws) e
    go false e = let none : is_some (each name_of (w ∷ ws)) ≡ false = ap is_some (no_name (w ∷ ws) e) in cc

-- a pair in front
pub pair_more : (left rest all : List Word) (x y : List ℕ) → left ≡ Name x ∷ Sign Equal ∷ Name y ∷ rest → are_pairs left ≡ are_pairs all → (w : Word) (ws : List Word) → rest ≡ w ∷ ws → are_pairs rest ≡ are_pairs all
pair_more left rest all x y e same w ws f =
    ap are_pairs f ∙ ap (λ vs. are_pairs (Name x ∷ Sign Equal ∷ Name y ∷ vs)) (sym f) ∙ ap are_pairs (sym e) ∙ same

pub pair_last : (left rest all : List Word) (x y : List ℕ) → left ≡ Name x ∷ Sign Equal ∷ Name y ∷ rest → are_pairs left ≡ are_pairs all → rest ≡ [] → true ≡ is_some (moves_of all)
pair_last left rest all x y e same f =
    ap (λ vs. are_pairs (Name x ∷ Sign Equal ∷ Name y ∷ vs)) (sym f) ∙ ap are_pairs (sym e) ∙ same ∙ pairs_told all

pub pair_none : (left all : List Word) → begins_move left ≡ false → are_pairs left ≡ are_pairs all → false ≡ is_some (moves_of all)
pair_none left all h same = sym (no left h) ∙ same ∙ pairs_told all
  where
    no : (ws : List Word) → begins_move ws ≡ false → are_pairs ws ≡ false
    no (Name x ∷ w ∷ Name y ∷ []) k = k
    no (Name x ∷ w ∷ Name y ∷ v ∷ ws) k = rw k refl
    no _ k = refl

-- ---- cut at the word `move`

pub cut_same : (f g : Word → Bool) → ((w : Word) → f w ≡ g w) → (ws : List Word) → (before f ws ≡ before g ws) × (behind f ws ≡ behind g ws)
cut_same f g h [] = (refl, refl)
cut_same f g h (w ∷ ws) = let m = cut_same f g h ws in (go (f w) (g w) (h w) m.0, gone (f w) (g w) (h w) m.1)
  where
    go : (s t : Bool) → s ≡ t → before f ws ≡ before g ws → cond s [] (w ∷ before f ws) ≡ cond t [] (w ∷ before g ws)
    go true true e m = refl
    go false false e m = ap (λ vs. w ∷ vs) m
    go true false e m = cc
    go false true e m = cc

    gone : (s t : Bool) → s ≡ t → behind f ws ≡ behind g ws → cond s (Some ws) (behind f ws) ≡ cond t (Some ws) (behind g ws)
    gone true true e m = refl
    gone false false e m = m
    gone true false e m = cc
    gone false true e m = cc

pub same_name : (x : List ℕ) (w : Word) → same_word (Name x) w ≡ is_name x w
same_name x (Name y) = refl
same_name x (Number n) = refl
same_name x (Sign m) = refl

pub before_name : (x : List ℕ) (ws : List Word) → before (same_word (Name x)) ws ≡ before (is_name x) ws
before_name x ws = (cut_same (same_word (Name x)) (is_name x) (same_name x) ws).0

pub behind_name : (x : List ℕ) (ws : List Word) → behind (same_word (Name x)) ws ≡ behind (is_name x) ws
behind_name x ws = (cut_same (same_word (Name x)) (is_name x) (same_name x) ws).1

-- ---- forms

pub moved_form : (ws : List Word) → is_some (moves_of ws) ≡ true → moves_of ws ≡ Some (moves_said ws)
moved_form ws h = moves_are ws (pairs_told ws ∙ h)

if_said_form : (o : Option (List Word)) → is_some (moves_if_said o) ≡ true → moves_if_said o ≡ Some (option_map moves_said o)
if_said_form None h = refl
if_said_form (Some ws) h = ap (option_map Some) (moved_form ws (inner (moves_of ws) h))
  where
    inner : (o : Option (List MoveForm)) → is_some (option_map Some o) ≡ true → is_some o ≡ true
    inner None k = cc
    inner (Some ms) k = refl

pub restored_form : (ws names : List Word) (moves : Option (List Word)) → names ≡ before (same_word (Name (codes "move"))) ws → moves ≡ behind (same_word (Name (codes "move"))) ws
    → is_some (each_of_some name_of names) ≡ true → is_some (moves_if_said moves) ≡ true
    → Some (GivenMap (record { restore = Some (names_in_front names); moves = option_map moves_said moves })) ≡ restore_of ws
restored_form ws names moves n m h k =
    let front : names ≡ before is_move ws = n ∙ before_name (codes "move") ws in
    let back : moves ≡ behind is_move ws = m ∙ behind_name (codes "move") ws in
    let restore : each_of_some name_of (before is_move ws) ≡ Some (names_in_front names) = ap (each_of_some name_of) (sym front) ∙ names_are names h in
    let said : moves_behind ws ≡ Some (option_map moves_said moves) = behind_is ws ∙ ap moves_if_said (sym back) ∙ if_said_form moves k in
    sym (
    ap (λ o. o >>= λ r. moves_behind ws >>= λ q. Some (GivenMap (record { restore = Some r; moves = q }))) restore
    ∙ ap (λ o. o >>= λ q. Some (GivenMap (record { restore = Some (names_in_front names); moves = q }))) said
    )
  where
    behind_is : (ws : List Word) → moves_behind ws ≡ moves_if_said (behind is_move ws)
    behind_is ws = go (behind is_move ws)
      where
        go : (o : Option (List Word)) → elim o as (λ _. Option (Option (List MoveForm))) [ None ↦ Some None | Some vs ↦ option_map Some (moves_of vs) ] ≡ moves_if_said o
        go None = refl
        go (Some vs) = refl

-- ---- names and pairs that are read one by one

-- the words are pairs
abbrev pub all_pairs : List Word → Bool
all_pairs [] = true
all_pairs (Name x ∷ w ∷ Name y ∷ ws) = is_equal w && all_pairs ws
all_pairs _ = false

pub pairs_all : (ws : List Word) → are_pairs ws ≡ true → all_pairs ws ≡ true
pairs_all (Name x ∷ w ∷ Name y ∷ []) h = rw h refl
pairs_all (Name x ∷ w ∷ Name y ∷ v ∷ ws) h =
    let k = and_parts (is_equal w) (are_pairs (v ∷ ws)) h in
    rw (k.0, pairs_all (v ∷ ws) k.1) refl
pairs_all _ h = cc

-- with a pair more
pub moves_go_on : (left rest : List Word) (x y : List ℕ) (done all : List MoveForm) → left ≡ Name x ∷ Sign Equal ∷ Name y ∷ rest → done ++ moves_said left ≡ all
    → (done ++ record { to = x; from = y } ∷ []) ++ moves_said rest ≡ all
moves_go_on left rest x y done all e same = append_assoc done (record { to = x; from = y } ∷ []) (moves_said rest) ∙ ap (λ ws. done ++ moves_said ws) (sym e) ∙ same

pub pairs_go_on : (left rest : List Word) (x y : List ℕ) → left ≡ Name x ∷ Sign Equal ∷ Name y ∷ rest → all_pairs left ≡ true → all_pairs rest ≡ true
pairs_go_on left rest x y e h = ap all_pairs (sym e) ∙ h

pub pairs_end : (left : List Word) (done all : List MoveForm) → begins_move left ≡ false → all_pairs left ≡ true → done ++ moves_said left ≡ all → done ≡ all
pairs_end left done all h k same = sym (append-nil done) ∙ ap (λ ms. done ++ ms) (sym (none left h k)) ∙ same
  where
    none : (ws : List Word) → begins_move ws ≡ false → all_pairs ws ≡ true → moves_said ws ≡ []
    none [] h k = refl
    none (Name x ∷ w ∷ Name y ∷ ws) h k = let e = and_parts (is_equal w) (all_pairs ws) k in cc
    none _ h k = cc

pub names_none_yet : (seen : List (List ℕ)) (o : NamesOnce) → HasNames seen o → HasNames (seen ++ []) o
names_none_yet seen o h = subst (λ xs. HasNames xs o) (sym (append-nil seen)) h

pub to_more : (seen : List (List ℕ)) (done : List MoveForm) (m : MoveForm) → (seen ++ map (λ n. n.to) done) ++ m.to ∷ [] ≡ seen ++ map (λ n. n.to) (done ++ m ∷ [])
to_more seen done m = append_assoc seen (map (λ n. n.to) done) (m.to ∷ []) ∙ ap (λ xs. seen ++ xs) (sym (map_push (λ n. n.to) done m))

-- ---- what is read is the map

pub are_all_pairs : (ws : List Word) → is_some (moves_of ws) ≡ true → are_pairs ws ≡ true
are_all_pairs ws h = pairs_told ws ∙ h

pub are_pairs_if_said : (o : Option (List Word)) → is_some (moves_if_said o) ≡ true → ArePairs o
are_pairs_if_said None h = tt
are_pairs_if_said (Some ws) h = are_all_pairs ws (inner (moves_of ws) h)
  where
    inner : (o : Option (List MoveForm)) → is_some (option_map Some o) ≡ true → is_some o ≡ true
    inner None k = cc
    inner (Some ms) k = refl

some_mapped : {A B : Type 0} (f : A → B) (o : Option A) → is_some (option_map f o) ≡ is_some o
some_mapped f None = refl
some_mapped f (Some a) = refl

module _ (u : WeightsLine) (items : List (List ℕ)) (restore moves : Option (List Word)) (rs : NamesRead) (ms : MovesRead)
    (hr : AreNumbersRead items (restored_in restore) rs) (hm : AreMovesRead items (moved_in moves) ms) where
  map_unknown : ((allows_restore u && rs.unknown) || (allows_moves u && ms.unknown)) ≡ has_unknown items (map_names u (map_said restore moves))
  map_unknown =
      ap₂ (λ a b. (allows_restore u && a) || (allows_moves u && b)) hr.unknown hm.unknown
      ∙ ap₂ (λ a b. a || b) (looked_up (allows_restore u) (restored_in restore)) (looked_up (allows_moves u) (ends_of (moved_in moves)))
      ∙ sym (list_any-append (λ x. not (is_among items x)) (if allows_restore u then restored_in restore else []) (if allows_moves u then ends_of (moved_in moves) else []))
    where
      looked_up : (t : Bool) (xs : List (List ℕ)) → (t && has_unknown items xs) ≡ has_unknown items (if t then xs else [])
      looked_up true xs = refl
      looked_up false xs = refl

  map_foreign : ((is_some restore && not (allows_restore u)) || (is_some moves && not (allows_moves u))) ≡ is_foreign_map u (map_said restore moves)
  map_foreign =
      ap₂ (λ a b. (a && not (allows_restore u)) || (b && not (allows_moves u))) (sym (some_mapped names_in_front restore)) (sym (some_mapped moves_said moves))

  known_restored : (allows_restore u && rs.unknown) ≡ false → (is_some restore && not (allows_restore u)) ≡ false → rs.unknown ≡ false
  known_restored h k = go (allows_restore u) restore refl h k
    where
      go : (t : Bool) (o : Option (List Word)) → restore ≡ o → (t && rs.unknown) ≡ false → (is_some o && not t) ≡ false → rs.unknown ≡ false
      go true o e h k = h
      go false None e h k = hr.unknown ∙ ap (λ p. has_unknown items (restored_in p)) e
      go false (Some ws) e h k = cc

  known_moved : (allows_moves u && ms.unknown) ≡ false → (is_some moves && not (allows_moves u)) ≡ false → ms.unknown ≡ false
  known_moved h k = go (allows_moves u) moves refl h k
    where
      go : (t : Bool) (o : Option (List Word)) → moves ≡ o → (t && ms.unknown) ≡ false → (is_some o && not t) ≡ false → ms.unknown ≡ false
      go true o e h k = h
      go false None e h k = hm.unknown ∙ ap (λ p. has_unknown items (ends_of (moved_in p))) e
      go false (Some ws) e h k = cc

  pub map_read : (r : ReturnRead) (v : MapText) → r.map ≡ Some v → v.restore ≡ rs.numbers.items → v.moves ≡ ms.moves.items
      → r.twice ≡ has_twice (restored_in restore ++ map (λ n. n.to) (moved_in moves))
      → r.unknown ≡ ((allows_restore u && rs.unknown) || (allows_moves u && ms.unknown))
      → r.foreign ≡ ((is_some restore && not (allows_restore u)) || (is_some moves && not (allows_moves u)))
      → IsReadReturn u items (map_said restore moves) r
  map_read r v e n m t k f =
      record {
        twice = t;
        unknown = k ∙ map_unknown;
        foreign = f ∙ map_foreign;
        map = λ known own.
            let ks = or_parts (allows_restore u && rs.unknown) (allows_moves u && ms.unknown) (sym k ∙ known) in
            let fs = or_parts (is_some restore && not (allows_restore u)) (is_some moves && not (allows_moves u)) (sym f ∙ own) in
            e ∙ ap Some (ap₂ (λ a b. let w : MapText = record { restore = a; moves = b } in w) (n ∙ hr.numbers (known_restored ks.0 fs.0)) (m ∙ hm.moves (known_moved ks.1 fs.1)));
      }

pub foreign_same : (u : WeightsLine) (restore moves : Option (List Word)) (a b : Bool) → a ≡ is_some restore → b ≡ is_some moves
    → ((a && not (allows_restore u)) || (b && not (allows_moves u))) ≡ ((is_some restore && not (allows_restore u)) || (is_some moves && not (allows_moves u)))
foreign_same u restore moves a b e f = ap₂ (λ s t. (s && not (allows_restore u)) || (t && not (allows_moves u))) e f
