-- The tokens of a line are what they are said to be.
use Rattle.std.proofs.Common.{◌≡◌, ℕ, Bool, true, false, not, ◌&&◌, cond, List, [], ◌∷◌, ◌++◌, length, take, drop, Option, Some, None, option_map, refl, sym, ap, ◌∙◌, subst, arith}
use Rattle.std.specs.Prelude.{◌==◌, nat_eq, find, IfSome}
use Rattle.std.specs.List.{list_all, starts_with}
use Rattle.std.proofs.lemmas.Bool.{and_parts, and_from, not-true, eqb-false, ne_eqb}
use Rattle.std.proofs.lemmas.Bool.Decides.{nat_tests}
use Rattle.std.proofs.lemmas.Slice.Eq.{bytes_eq-Decides}
use Rattle.std.proofs.lemmas.List.{take-append-drop}
use Rattle.wpds_port.specs.Tokens.{is_blank, Mark, Arrow, Implies, Becomes, Differs, Colon, Minus, Equal, Not, mark_text, marks, mark_at, Word, Name, Number, Sign, word_text, word_at, bytes_while, is_digit, begins_name, goes_on_name, is_word, goes_on, stops}

-- ---- one word

pub digit_begins_no_name : (b : ℕ) → is_digit b ≡ true → begins_name b ≡ false
digit_begins_no_name b h = grind (arith, nat_tests)

pub name_is_not_blank : (b : ℕ) → begins_name b ≡ true → is_blank b ≡ false
name_is_not_blank b h = grind (arith, nat_tests)

pub digit_is_not_blank : (b : ℕ) → is_digit b ≡ true → is_blank b ≡ false
digit_is_not_blank b h = grind (arith, nat_tests)

-- bytes that go on, up to one that doesn't
abbrev stops_at : (ℕ → Bool) → List ℕ → Bool
stops_at test [] = true
stops_at test (b ∷ bs) = not (test b)

bytes_while-all : (test : ℕ → Bool) (xs rest : List ℕ) → list_all test xs ≡ true → stops_at test rest ≡ true → bytes_while test (xs ++ rest) ≡ xs
bytes_while-all test [] [] h s = refl
bytes_while-all test [] (b ∷ bs) h s = rw (not-true (test b) s) refl
bytes_while-all test (x ∷ xs) rest h s =
    let k = and_parts (test x) (list_all test xs) h in
    rw (k.0, bytes_while-all test xs rest k.1 s) refl

flipped : (b n : ℕ) → not (b == n) ≡ true → (n == b) ≡ false
flipped b n h = ne_eqb n b (λ e. eqb-false b n (not-true (b == n) h) (sym e))

stops_name : (bytes rest : List ℕ) → stops (Name bytes) rest ≡ true → stops_at goes_on_name rest ≡ true
stops_name bytes [] s = refl
stops_name bytes (b ∷ bs) s = s

stops_number : (bytes rest : List ℕ) → stops (Number bytes) rest ≡ true → stops_at is_digit rest ≡ true
stops_number bytes [] s = refl
stops_number bytes (b ∷ bs) s = s

mark_again : (m : Mark) (rest : List ℕ) → stops (Sign m) rest ≡ true → word_at (mark_text m ++ rest) ≡ Some (Sign m)
mark_again Minus [] s = refl
mark_again Minus (b ∷ bs) s = rw (flipped b 62 s) refl
mark_again Equal [] s = refl
mark_again Equal (b ∷ bs) s = rw (flipped b 62 s) refl
mark_again Colon [] s = refl
mark_again Colon (b ∷ bs) s = rw (flipped b 61 s) refl
mark_again Not [] s = refl
mark_again Not (b ∷ bs) s = rw (flipped b 61 s) refl
mark_again m rest s = refl

-- a word that is not gone on is cut off again
pub word_again : (w : Word) (rest : List ℕ) → is_word w ≡ true → stops w rest ≡ true → word_at (word_text w ++ rest) ≡ Some w
word_again (Name []) rest h s = cc
word_again (Name (b ∷ bs)) rest h s =
    let k = and_parts (begins_name b) (list_all goes_on_name bs) h in
    rw (k.0, bytes_while-all goes_on_name bs rest k.1 (stops_name (b ∷ bs) rest s)) refl
word_again (Number []) rest h s = cc
word_again (Number (b ∷ bs)) rest h s =
    let k = and_parts (is_digit b) (list_all is_digit bs) h in
    rw (digit_begins_no_name b k.0, k.0, bytes_while-all is_digit bs rest k.1 (stops_number (b ∷ bs) rest s)) refl
word_again (Sign m) rest h s = mark_again m rest s

-- ---- from the front: what a word cut off is

pub record IsCutOff (text : List ℕ) (w : Word) (rest : List ℕ) : Type 0 where
  pub joined : text ≡ word_text w ++ rest
  pub word : is_word w ≡ true
  pub stop : stops w rest ≡ true

abbrev drop_while : (ℕ → Bool) → List ℕ → List ℕ
drop_while test [] = []
drop_while test (b ∷ bs) = cond (test b) (drop_while test bs) (b ∷ bs)

record IsRun (test : ℕ → Bool) (text front rest : List ℕ) : Type 0 where
  joined : text ≡ front ++ rest
  all : list_all test front ≡ true
  stop : stops_at test rest ≡ true

run : (test : ℕ → Bool) (text : List ℕ) → IsRun test text (bytes_while test text) (drop_while test text)
run test [] = record { joined = refl; all = refl; stop = refl }
run test (b ∷ bs) = go (test b) refl (run test bs)
  where
    go : (t : Bool) → test b ≡ t → IsRun test bs (bytes_while test bs) (drop_while test bs) → IsRun test (b ∷ bs) (cond t (b ∷ bytes_while test bs) []) (cond t (drop_while test bs) (b ∷ bs))
    go true e r = record { joined = ap (λ x. b ∷ x) r.joined; all = and_from (test b) (list_all test (bytes_while test bs)) e r.all; stop = r.stop }
    go false e r = record { joined = refl; all = refl; stop = rw e refl }

abbrev starts : Mark → List ℕ → Bool
starts m text = starts_with nat_eq text (mark_text m)

and_true : (x : Bool) → (x && true) ≡ false → x ≡ false
and_true true h = h
and_true false h = refl

-- no mark of two bytes begins the text
record NoPair (text : List ℕ) : Type 0 where
  arrow : starts Arrow text ≡ false
  implies : starts Implies text ≡ false
  becomes : starts Becomes text ≡ false
  differs : starts Differs text ≡ false

never_on : (m : Mark) (rest : List ℕ) → ((b : ℕ) → goes_on (Sign m) b ≡ false) → stops (Sign m) rest ≡ true
never_on m [] h = refl
never_on m (b ∷ bs) h = rw (h b) refl

not_on : (b n : ℕ) → ((n == b) && true) ≡ false → not (b == n) ≡ true
not_on b n h = rw (ne_eqb b n (λ e. eqb-false n b (and_true (n == b) h) (sym e))) refl

stop_of : (m : Mark) (rest : List ℕ) → NoPair (mark_text m ++ rest) → stops (Sign m) rest ≡ true
stop_of Minus [] n = refl
stop_of Minus (b ∷ bs) n = not_on b 62 n.arrow
stop_of Equal [] n = refl
stop_of Equal (b ∷ bs) n = not_on b 62 n.implies
stop_of Colon [] n = refl
stop_of Colon (b ∷ bs) n = not_on b 61 n.becomes
stop_of Not [] n = refl
stop_of Not (b ∷ bs) n = not_on b 61 n.differs
stop_of m rest n = never_on m rest (λ b. refl)

begun : (m : Mark) (text : List ℕ) → starts m text ≡ true → (rest : List ℕ) × (text ≡ mark_text m ++ rest)
begun m text h =
    let n : ℕ = length (mark_text m) in
    let e : mark_text m ≡ take n text = (bytes_eq-Decides (mark_text m) (take n text)).0 h in
    (drop n text, sym (take-append-drop n text) ∙ ap (λ x. x ++ drop n text) (sym e))

cut_mark : (m : Mark) (text : List ℕ) → starts m text ≡ true → NoPair text → (rest : List ℕ) × IsCutOff text (Sign m) rest
cut_mark m text h n = let b = begun m text h in (b.0, record { joined = b.1; word = refl; stop = stop_of m b.0 (subst NoPair b.1 n) })

cut_pair : (m : Mark) (text : List ℕ) → starts m text ≡ true → ((b : ℕ) → goes_on (Sign m) b ≡ false) → (rest : List ℕ) × IsCutOff text (Sign m) rest
cut_pair m text h never = let b = begun m text h in (b.0, record { joined = b.1; word = refl; stop = never_on m b.0 never })

found_cut : (text : List ℕ) (ms : List Mark) → NoPair text → IfSome (find (λ m. starts m text) ms) (λ m. (rest : List ℕ) × IsCutOff text (Sign m) rest)
found_cut text [] n = tt
found_cut text (m ∷ ms) n = go (starts m text) refl (found_cut text ms n)
  where
    go : (t : Bool) → starts m text ≡ t → IfSome (find (λ m. starts m text) ms) (λ m. (rest : List ℕ) × IsCutOff text (Sign m) rest)
        → IfSome (cond t (Some m) (find (λ m. starts m text) ms)) (λ m. (rest : List ℕ) × IsCutOff text (Sign m) rest)
    go true e h = cut_mark m text e n
    go false e h = h

abbrev single_marks : List Mark
single_marks = drop 4 marks

mark_cut : (text : List ℕ) → IfSome (mark_at text) (λ m. (rest : List ℕ) × IsCutOff text (Sign m) rest)
mark_cut text = go (starts Arrow text) (starts Implies text) (starts Becomes text) (starts Differs text) refl refl refl refl
  where
    go : (a i b d : Bool) → starts Arrow text ≡ a → starts Implies text ≡ i → starts Becomes text ≡ b → starts Differs text ≡ d
        → IfSome (cond a (Some Arrow) (cond i (Some Implies) (cond b (Some Becomes) (cond d (Some Differs) (find (λ m. starts m text) single_marks))))) (λ m. (rest : List ℕ) × IsCutOff text (Sign m) rest)
    go true i b d p q r s = cut_pair Arrow text p (λ _. refl)
    go false true b d p q r s = cut_pair Implies text q (λ _. refl)
    go false false true d p q r s = cut_pair Becomes text r (λ _. refl)
    go false false false true p q r s = cut_pair Differs text s (λ _. refl)
    go false false false false p q r s = found_cut text single_marks (record { arrow = p; implies = q; becomes = r; differs = s })

name_stops : (bytes rest : List ℕ) → stops_at goes_on_name rest ≡ true → stops (Name bytes) rest ≡ true
name_stops bytes [] s = refl
name_stops bytes (b ∷ bs) s = s

number_stops : (bytes rest : List ℕ) → stops_at is_digit rest ≡ true → stops (Number bytes) rest ≡ true
number_stops bytes [] s = refl
number_stops bytes (b ∷ bs) s = s

through_sign : (text : List ℕ) (o : Option Mark) → IfSome o (λ m. (rest : List ℕ) × IsCutOff text (Sign m) rest) → IfSome (option_map Sign o) (λ w. (rest : List ℕ) × IsCutOff text w rest)
through_sign text None h = tt
through_sign text (Some m) h = h

pub word_cut : (text : List ℕ) → IfSome (word_at text) (λ w. (rest : List ℕ) × IsCutOff text w rest)
word_cut [] = tt
word_cut (b ∷ bs) = go (begins_name b) (is_digit b) refl refl
  where
    go : (n d : Bool) → begins_name b ≡ n → is_digit b ≡ d
        → IfSome (cond n (Some (Name (bytes_while goes_on_name (b ∷ bs)))) (cond d (Some (Number (bytes_while is_digit (b ∷ bs)))) (option_map Sign (mark_at (b ∷ bs))))) (λ w. (rest : List ℕ) × IsCutOff (b ∷ bs) w rest)
    go true d e f =
        let r = run goes_on_name bs in
        let same : bytes_while goes_on_name (b ∷ bs) ≡ b ∷ bytes_while goes_on_name bs = rw e refl in
        subst (λ x. (rest : List ℕ) × IsCutOff (b ∷ bs) (Name x) rest) (sym same)
        (drop_while goes_on_name bs, record { joined = ap (λ x. b ∷ x) r.joined; word = and_from (begins_name b) _ e r.all; stop = name_stops (b ∷ bytes_while goes_on_name bs) (drop_while goes_on_name bs) r.stop })
    go false true e f =
        let r = run is_digit bs in
        let same : bytes_while is_digit (b ∷ bs) ≡ b ∷ bytes_while is_digit bs = rw f refl in
        subst (λ x. (rest : List ℕ) × IsCutOff (b ∷ bs) (Number x) rest) (sym same)
        (drop_while is_digit bs, record { joined = ap (λ x. b ∷ x) r.joined; word = and_from (is_digit b) _ f r.all; stop = number_stops (b ∷ bytes_while is_digit bs) (drop_while is_digit bs) r.stop })
    go false false e f = through_sign (b ∷ bs) (mark_at (b ∷ bs)) (mark_cut (b ∷ bs))
