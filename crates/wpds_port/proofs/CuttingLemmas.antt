-- A text that is cut in two at a word.
use Rattle.std.proofs.Common.{◌≡◌, ℕ, ◌+◌, ◌-◌, ◌≤◌, ◌<◌, Bool, true, false, List, [], ◌∷◌, ◌++◌, length, take, drop, Option, Some, None, option_map, refl, sym, ap, ◌∙◌, subst, arith, append_assoc, append-nil, length-append, length-drop}
use Rattle.std.specs.Prelude.{unwrap_or, is_some, IsTrue, ◌&&◌, ◌==◌}
use Rattle.std.specs.List.{list_all}
use Rattle.std.proofs.Math.Seq.{take-append_seam, drop-append_seam}
use Rattle.wpds_port.specs.Tokens.{is_blank, Open, Close, Word, Sign, word_text, stops, is_lawful_word}
use Rattle.wpds_port.specs.Words.{text_words, lawful_words, before, behind, before_outside, behind_outside, brackets_after, IsNext}
use Rattle.wpds_port.specs.private.Fronts.{Reaches, Cutting, HasPassed, at_first, outside}
use Rattle.wpds_port.proofs.TextLemmas.{lawful_next, lawless_next, no_words, never_unknown, next_shorter}
use Rattle.wpds_port.proofs.TokenLemmas.{rest_of_line}

-- the words of a text that has them
abbrev view : List ℕ → List Word
view text = unwrap_or (lawful_words text) []

pub seen : (text : List ℕ) → is_some (lawful_words text) ≡ true → lawful_words text ≡ Some (view text)
seen text h = go (lawful_words text) h
  where
    go : (o : Option (List Word)) → is_some o ≡ true → o ≡ Some (unwrap_or o [])
    go None h = cc
    go (Some ws) h = refl

-- ---- words that were read

reaches_more : (text : List ℕ) (ws : List Word) (rest : List ℕ) (w : Word) (last : List ℕ) → Reaches text ws rest → IsNext rest w last → Reaches text (ws ++ w ∷ []) last
reaches_more text [] rest w last e n = (last, subst (λ x. IsNext x w last) (sym e) n, refl)
reaches_more text (v ∷ ws) rest w last (middle, m, r) n = (middle, m, reaches_more middle ws rest w last r n)

-- What a text is whose first words lead to a rest.
record IsRead (text : List ℕ) (ws : List Word) (rest : List ℕ) : Type 0 where
  lawful : is_some (lawful_words rest) ≡ true
  all : view text ≡ ws ++ view rest
  front : List ℕ
  joined : text ≡ front ++ rest
  words : lawful_words front ≡ Some ws

cut_shorter : (w : Word) (front rest : List ℕ) → stops w (front ++ rest) ≡ true → stops w front ≡ true
cut_shorter w [] rest h = refl
cut_shorter w (b ∷ bs) rest h = h

lawful_first : (text : List ℕ) (w : Word) (rest : List ℕ) → IsNext text w rest → is_some (lawful_words text) ≡ true → is_lawful_word w ≡ true
lawful_first text w rest n h = go (is_lawful_word w) refl
  where
    go : (t : Bool) → is_lawful_word w ≡ t → t ≡ true
    go true e = refl
    go false e = let none : is_some (lawful_words text) ≡ false = ap is_some (lawless_next text w rest n e) in cc

some_of : {A B : Type 0} (f : A → B) (o : Option A) → is_some (option_map f o) ≡ true → is_some o ≡ true
some_of f None h = cc
some_of f (Some a) h = refl

read : (text : List ℕ) (ws : List Word) (rest : List ℕ) → Reaches text ws rest → is_some (lawful_words text) ≡ true → IsRead text ws rest
read text [] rest e h = record { lawful = subst (λ x. is_some (lawful_words x) ≡ true) e h; all = ap view e; front = []; joined = e; words = refl }
read text (w ∷ ws) rest (middle, n, r) h =
    let l = lawful_first text w middle n h in
    let e = lawful_next text w middle n l in
    let m = some_of (λ vs. w ∷ vs) (lawful_words middle) (ap is_some (sym e) ∙ h) in
    let more = read middle ws rest r m in
    let own : List ℕ = n.blanks ++ (word_text w ++ more.front) in
    let next : IsNext own w more.front =
    record { blanks = n.blanks; blank = n.blank; joined = refl; word = n.word; stop = cut_shorter w more.front rest (subst (λ x. stops w x ≡ true) more.joined n.stop) } in
    record {
      lawful = more.lawful;
      all = ap (λ o. unwrap_or o []) (e ∙ ap (option_map (λ vs. w ∷ vs)) (seen middle m)) ∙ ap (λ vs. w ∷ vs) more.all;
      front = own;
      joined = n.joined ∙ ap (λ x. n.blanks ++ (word_text w ++ x)) more.joined ∙ ap (λ x. n.blanks ++ x) (sym (append_assoc (word_text w) more.front rest)) ∙ sym (append_assoc n.blanks (word_text w ++ more.front) rest);
      words = lawful_next own w more.front next l ∙ ap (option_map (λ vs. w ∷ vs)) more.words;
    }

-- ---- a search

pub passed_none : (first : Cutting) (text : List ℕ) → HasPassed first first text 0
passed_none first text = record { within = omega arith; words = []; reached = refl; front = λ ws. refl; back = λ ws. refl }

-- with a word more, behind which it is cut as it is cut next
pub passed_more : (first now next : Cutting) (text : List ℕ) (place : ℕ) (w : Word) (rest : List ℕ)
    → HasPassed first now text place → IsNext (drop place text) w rest
    → ((ws : List Word) → now.front (w ∷ ws) ≡ w ∷ next.front ws) → ((ws : List Word) → now.back (w ∷ ws) ≡ next.back ws)
    → HasPassed first next text (length text - length rest)
passed_more first now next text place w rest p n f b =
    let r = reaches_more text p.words (drop place text) w rest p.reached n in
    let same : rest ≡ drop (length text - length rest) text = reached_drop (p.words ++ w ∷ []) text rest r in
    record {
      within = omega arith;
      words = p.words ++ w ∷ [];
      reached = subst (Reaches text (p.words ++ w ∷ [])) same r;
      front = λ ws. ap first.front (append_assoc p.words (w ∷ []) ws) ∙ p.front (w ∷ ws) ∙ ap (λ x. p.words ++ x) (f ws) ∙ sym (append_assoc p.words (w ∷ []) (next.front ws));
      back = λ ws. ap first.back (append_assoc p.words (w ∷ []) ws) ∙ p.back (w ∷ ws) ∙ b ws;
    }
  where
    suffix : (ws : List Word) (text rest : List ℕ) → Reaches text ws rest → (front : List ℕ) × (text ≡ front ++ rest)
    suffix [] text rest e = ([], e)
    suffix (v ∷ ws) text rest (middle, n, r) =
        let s = suffix ws middle rest r in
        ((n.blanks ++ word_text v) ++ s.0, n.joined ∙ ap (λ x. n.blanks ++ (word_text v ++ x)) s.1 ∙ sym (append_assoc n.blanks (word_text v) (s.0 ++ rest)) ∙ sym (append_assoc (n.blanks ++ word_text v) s.0 rest))

    reached_drop : (ws : List Word) (text rest : List ℕ) → Reaches text ws rest → rest ≡ drop (length text - length rest) text
    reached_drop ws text rest r =
        let s = suffix ws text rest r in
        let size : length text - length rest ≡ length s.0 = omega (arith, ap length s.1 ∙ length-append s.0 rest) in
        sym (ap (λ k. drop k text) size ∙ ap (drop (length s.0)) s.1 ∙ drop-append_seam s.0 rest)

-- The two texts that a text is cut into.
pub record IsCutInTwo (first : Cutting) (text start rest : List ℕ) : Type 0 where
  pub lawful : IsTrue (is_some (lawful_words start))
  pub lawful_rest : IsTrue (is_some (lawful_words rest))
  pub front : view start ≡ first.front (view text)
  pub back : Some (view rest) ≡ first.back (view text)

pub cut_at : (first now : Cutting) (text : List ℕ) (place : ℕ) (w : Word) (rest : List ℕ)
    → HasPassed first now text place → IsNext (drop place text) w rest → is_some (lawful_words text) ≡ true
    → ((ws : List Word) → now.front (w ∷ ws) ≡ []) → ((ws : List Word) → now.back (w ∷ ws) ≡ Some ws)
    → IsCutInTwo first text (take place text) rest
cut_at first now text place w rest p n h f b =
    let r = read text p.words (drop place text) p.reached h in
    let l = lawful_first (drop place text) w rest n r.lawful in
    let e = lawful_next (drop place text) w rest n l in
    let m = some_of (λ vs. w ∷ vs) (lawful_words rest) (ap is_some (sym e) ∙ r.lawful) in
    let behind_words : view (drop place text) ≡ w ∷ view rest = ap (λ o. unwrap_or o []) (e ∙ ap (option_map (λ vs. w ∷ vs)) (seen rest m)) in
    let all : view text ≡ p.words ++ w ∷ view rest = r.all ∙ ap (λ x. p.words ++ x) behind_words in
    let same : take place text ≡ r.front = front_is place text r.front r.joined p.within in
    let words : lawful_words (take place text) ≡ Some p.words = ap lawful_words same ∙ r.words in
    record {
      lawful = ap is_some words;
      lawful_rest = m;
      front = ap (λ o. unwrap_or o []) words ∙ sym (append-nil p.words) ∙ ap (λ x. p.words ++ x) (sym (f (view rest))) ∙ sym (p.front (w ∷ view rest)) ∙ ap first.front (sym all);
      back = sym (b (view rest)) ∙ sym (p.back (w ∷ view rest)) ∙ ap first.back (sym all);
    }
  where
    front_is : (place : ℕ) (text front : List ℕ) → text ≡ front ++ drop place text → place ≤ length text → take place text ≡ front
    front_is place text front e within =
        let size : length front ≡ place = omega (arith, ap length e ∙ length-append front (drop place text), length-drop place text) in
        ap (take place) e ∙ ap (λ k. take k (front ++ drop place text)) (sym size) ∙ take-append_seam front (drop place text)

-- A text that is not cut.
pub record IsUncut (first : Cutting) (text : List ℕ) : Type 0 where
  pub front : view text ≡ first.front (view text)
  pub back : None ≡ first.back (view text)

pub uncut_end : (first now : Cutting) (text : List ℕ) (place : ℕ)
    → HasPassed first now text place → list_all is_blank (drop place text) ≡ true → is_some (lawful_words text) ≡ true
    → now.front [] ≡ [] → now.back [] ≡ None → IsUncut first text
uncut_end first now text place p blank h f b =
    let r = read text p.words (drop place text) p.reached h in
    let all : view text ≡ p.words ++ [] = r.all ∙ ap (λ x. p.words ++ x) (no_words (drop place text) blank) in
    record {
      front = all ∙ ap (λ x. p.words ++ x) (sym f) ∙ sym (p.front []) ∙ ap first.front (sym all);
      back = sym b ∙ sym (p.back []) ∙ ap first.back (sym all);
    }

pub never_stuck : (first now : Cutting) (text : List ℕ) (place : ℕ) → HasPassed first now text place → text_words (drop place text) ≡ None → is_some (lawful_words text) ≡ true → ⊥
never_stuck first now text place p e h = never_unknown (drop place text) e (read text p.words (drop place text) p.reached h).lawful

-- ---- at the first word at which a test holds

pub stops_front : (test : Word → Bool) (w : Word) → test w ≡ true → (ws : List Word) → before test (w ∷ ws) ≡ []
stops_front test w h ws = rw h refl

pub stops_back : (test : Word → Bool) (w : Word) → test w ≡ true → (ws : List Word) → behind test (w ∷ ws) ≡ Some ws
stops_back test w h ws = rw h refl

pub goes_front : (test : Word → Bool) (w : Word) → test w ≡ false → (ws : List Word) → before test (w ∷ ws) ≡ w ∷ before test ws
goes_front test w h ws = rw h refl

pub goes_back : (test : Word → Bool) (w : Word) → test w ≡ false → (ws : List Word) → behind test (w ∷ ws) ≡ behind test ws
goes_back test w h ws = rw h refl

-- ---- a search for such a word, as a loop meets it

module _ (test : Word → Bool) (text : List ℕ) (place : ℕ) (p : HasPassed (at_first test) (at_first test) text place) where
  abbrev cutting : Cutting
  cutting = at_first test

  abbrev rest_here : List ℕ
  rest_here = take (length text - place) (drop place text)

  behind_here : (w : Word) (rest : List ℕ) → IsNext rest_here w rest → IsNext (drop place text) w rest
  behind_here w rest n = subst (λ x. IsNext x w rest) (rest_of_line place text) n

  pub found : (w : Word) (rest : List ℕ) → IsNext rest_here w rest → true ≡ test w → is_some (lawful_words text) ≡ true → IsCutInTwo (at_first test) text (take place text) rest
  found w rest n t h = cut_at cutting cutting text place w rest p (behind_here w rest n) h (stops_front test w (sym t)) (stops_back test w (sym t))

  pub passed : (w : Word) (rest : List ℕ) → IsNext rest_here w rest → false ≡ test w → HasPassed (at_first test) (at_first test) text (length text - length rest)
  passed w rest n t = passed_more cutting cutting cutting text place w rest p (behind_here w rest n) (goes_front test w (sym t)) (goes_back test w (sym t))

  pub ended : list_all is_blank rest_here ≡ true → is_some (lawful_words text) ≡ true → IsUncut (at_first test) text
  ended blank h = uncut_end cutting cutting text place p (subst (λ x. list_all is_blank x ≡ true) (rest_of_line place text) blank) h refl refl

  pub stuck : text_words rest_here ≡ None → is_some (lawful_words text) ≡ true → ⊥
  stuck e h = never_stuck cutting cutting text place p (subst (λ x. text_words x ≡ None) (rest_of_line place text) e) h

pub advanced : (text : List ℕ) (place : ℕ) (w : Word) (rest : List ℕ) → IsNext (take (length text - place) (drop place text)) w rest → place ≤ length text → length text - (length text - length rest) < length text - place
advanced text place w rest n within =
    let short : length rest < length (drop place text) = subst (λ x. length rest < length x) (rest_of_line place text) (next_shorter _ w rest n) in
    omega (arith, length-drop place text)

-- ---- outside brackets

module _ (test : Word → Bool) (d : ℕ) (w : Word) where
  pub outside_stops_front : (d == 0 && test w) ≡ true → (ws : List Word) → before_outside d test (w ∷ ws) ≡ []
  outside_stops_front h ws = rw (h, before_outside) refl

  pub outside_stops_back : (d == 0 && test w) ≡ true → (ws : List Word) → behind_outside d test (w ∷ ws) ≡ Some ws
  outside_stops_back h ws = rw (h, behind_outside) refl

  pub outside_goes_front : (d == 0 && test w) ≡ false → (ws : List Word) → before_outside d test (w ∷ ws) ≡ w ∷ before_outside (brackets_after d w) test ws
  outside_goes_front h ws = rw (h, before_outside) refl

  pub outside_goes_back : (d == 0 && test w) ≡ false → (ws : List Word) → behind_outside d test (w ∷ ws) ≡ behind_outside (brackets_after d w) test ws
  outside_goes_back h ws = rw (h, behind_outside) refl

module _ (test : Word → Bool) (text : List ℕ) (d place : ℕ) (p : HasPassed (outside 0 test) (outside d test) text place) where
  abbrev rest_there : List ℕ
  rest_there = take (length text - place) (drop place text)

  behind_there : (w : Word) (rest : List ℕ) → IsNext rest_there w rest → IsNext (drop place text) w rest
  behind_there w rest n = subst (λ x. IsNext x w rest) (rest_of_line place text) n

  pub outside_found : (w : Word) (rest : List ℕ) → IsNext rest_there w rest → true ≡ (d == 0 && test w) → is_some (lawful_words text) ≡ true → IsCutInTwo (outside 0 test) text (take place text) rest
  outside_found w rest n t h = cut_at (outside 0 test) (outside d test) text place w rest p (behind_there w rest n) h (outside_stops_front test d w (sym t)) (outside_stops_back test d w (sym t))

  pub outside_passed : (w : Word) (rest : List ℕ) → IsNext rest_there w rest → false ≡ (d == 0 && test w) → HasPassed (outside 0 test) (outside (brackets_after d w) test) text (length text - length rest)
  outside_passed w rest n t = passed_more (outside 0 test) (outside d test) (outside (brackets_after d w) test) text place w rest p (behind_there w rest n) (outside_goes_front test d w (sym t)) (outside_goes_back test d w (sym t))

  pub outside_ended : list_all is_blank rest_there ≡ true → is_some (lawful_words text) ≡ true → IsUncut (outside 0 test) text
  outside_ended blank h = uncut_end (outside 0 test) (outside d test) text place p (subst (λ x. list_all is_blank x ≡ true) (rest_of_line place text) blank) h refl refl

  pub outside_stuck : text_words rest_there ≡ None → is_some (lawful_words text) ≡ true → ⊥
  outside_stuck e h = never_stuck (outside 0 test) (outside d test) text place p (subst (λ x. text_words x ≡ None) (rest_of_line place text) e) h

-- no more brackets are open than bytes were read
pub brackets_below : (d place : ℕ) (w : Word) (text rest : List ℕ) → d ≤ place → IsNext (take (length text - place) (drop place text)) w rest → place ≤ length text → brackets_after d w ≤ length text - length rest
brackets_below d place w text rest few n within =
    let more : brackets_after d w ≤ d + 1 = one_more d w in
    let shorter = advanced text place w rest n within in
    omega arith
  where
    one_more : (d : ℕ) (w : Word) → brackets_after d w ≤ d + 1
    one_more d (Sign Open) = omega arith
    one_more d (Sign Close) = omega arith
    one_more d w = omega arith
