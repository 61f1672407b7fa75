-- Texts with a mark between are read as a list.
use Rattle.std.proofs.Common.{◌≡◌, ℕ, Bool, true, false, not, cond, List, [], ◌∷◌, ◌++◌, map, Option, Some, None, refl, sym, ap, ◌∙◌, subst, append_assoc}
use Rattle.std.specs.Prelude.{All, codes, option_map}
use Rattle.std.proofs.lemmas.Bool.{and_parts, and_from, not-true}
use Rattle.std.proofs.lemmas.List.Elements.{All-head, All-tail}
use Rattle.wpds_port.specs.declared.Mark.TheVariants.{Semicolon, Comma}
use Rattle.wpds_port.specs.declared.Word.{Word}
use Rattle.wpds_port.specs.declared.Word.TheVariants.{Mark as Sign}
use Rattle.document_forms.specs.Lines.{in_front}
use Rattle.document_forms.specs.Words.{parted, each}
use Rattle.document_forms.specs.FormWords.{has_none}
use Rattle.document_forms.specs.Writing.{spaced, ended_but_last, listed, in_turn}
use Rattle.document_forms.proofs.FormLemmas.{none_append}
use Rattle.document_forms.proofs.WrittenWordLemmas.{Says, says_nothing, says_word, says_apart, says_joined}

-- these texts have these words, each its own
abbrev pub SayEach : List (List ℕ) → List (List Word) → Type 0
SayEach [] [] = Unit {0}
SayEach (t ∷ ts) (ws ∷ wss) = Says t ws × SayEach ts wss
SayEach _ _ = ⊥

-- words with one word between
abbrev pub between : Word → List (List Word) → List Word
between m [] = []
between m (ws ∷ []) = ws
between m (ws ∷ vs ∷ wss) = ws ++ m ∷ between m (vs ∷ wss)

ended_more : (end x u : List ℕ) (ts : List (List ℕ)) → spaced (x ∷ ended_but_last end (u ∷ ts)) ≡ x ++ 32 ∷ spaced (ended_but_last end (u ∷ ts))
ended_more end x u [] = refl
ended_more end x u (t ∷ ts) = refl

says_ended : (end : List ℕ) (m : Word) → ((t : List ℕ) (ws : List Word) → Says t ws → Says (t ++ end) (ws ++ m ∷ [])) → (ts : List (List ℕ)) (wss : List (List Word)) → SayEach ts wss → Says (spaced (ended_but_last end ts)) (between m wss)
says_ended end m f [] [] h = says_nothing
says_ended end m f [] (ws ∷ wss) h = absurd h
says_ended end m f (t ∷ ts) [] h = absurd h
says_ended end m f (t ∷ []) (ws ∷ []) h = h.0
says_ended end m f (t ∷ []) (ws ∷ vs ∷ wss) h = absurd h.1
says_ended end m f (t ∷ u ∷ ts) (ws ∷ []) h = absurd h.1
says_ended end m f (t ∷ u ∷ ts) (ws ∷ vs ∷ wss) h =
    subst (λ x. Says x (ws ++ m ∷ between m (vs ∷ wss))) (sym (ended_more end (t ++ end) u ts))
    (subst (Says ((t ++ end) ++ 32 ∷ spaced (ended_but_last end (u ∷ ts)))) (append_assoc ws (m ∷ []) (between m (vs ∷ wss)))
    (says_apart (t ++ end) (spaced (ended_but_last end (u ∷ ts))) (ws ++ m ∷ []) (between m (vs ∷ wss)) (f t ws h.0) (says_ended end m f (u ∷ ts) (vs ∷ wss) h.1)))

pub says_listed : (ts : List (List ℕ)) (wss : List (List Word)) → SayEach ts wss → Says (listed ts) (between (Sign Comma) wss)
says_listed = says_ended (codes ",") (Sign Comma) (λ t ws s. says_joined t 44 [] ws (Sign Comma ∷ []) refl s (says_word (Sign Comma) refl refl))

pub says_in_turn : (ts : List (List ℕ)) (wss : List (List Word)) → SayEach ts wss → Says (in_turn ts) (between (Sign Semicolon) wss)
says_in_turn = says_ended (codes " ;") (Sign Semicolon) (λ t ws s. says_apart t (codes ";") ws (Sign Semicolon ∷ []) s (says_word (Sign Semicolon) refl refl))

-- ---- cut again

abbrev pub NoneHas : (Word → Bool) → List (List Word) → Type 0
NoneHas test [] = Unit {0}
NoneHas test (ws ∷ wss) = (has_none test ws ≡ true) × NoneHas test wss

parted_one : (test : Word → Bool) (ws : List Word) → has_none test ws ≡ true → parted test ws ≡ ws ∷ []
parted_one test [] h = refl
parted_one test (w ∷ ws) h =
    let k = and_parts (not (test w)) (has_none test ws) h in
    ap (λ t. cond t ([] ∷ parted test ws) (in_front w (parted test ws))) (not-true (test w) k.0)
    ∙ ap (in_front w) (parted_one test ws k.1)

parted_more : (test : Word → Bool) (ws : List Word) (m : Word) (vs : List Word) → has_none test ws ≡ true → test m ≡ true → parted test (ws ++ m ∷ vs) ≡ ws ∷ parted test vs
parted_more test [] m vs h t = ap (λ b. cond b ([] ∷ parted test vs) (in_front m (parted test vs))) t
parted_more test (w ∷ ws) m vs h t =
    let k = and_parts (not (test w)) (has_none test ws) h in
    ap (λ b. cond b ([] ∷ parted test (ws ++ m ∷ vs)) (in_front w (parted test (ws ++ m ∷ vs)))) (not-true (test w) k.0)
    ∙ ap (in_front w) (parted_more test ws m vs k.1 t)

pub parted_between : (test : Word → Bool) (m : Word) → test m ≡ true → (ws : List Word) (wss : List (List Word)) → NoneHas test (ws ∷ wss) → parted test (between m (ws ∷ wss)) ≡ ws ∷ wss
parted_between test m t ws [] h = parted_one test ws h.0
parted_between test m t ws (vs ∷ wss) h = parted_more test ws m (between m (vs ∷ wss)) h.0 t ∙ ap (λ ps. ws ∷ ps) (parted_between test m t vs wss h.1)

pub none_between : (test : Word → Bool) (m : Word) → test m ≡ false → (wss : List (List Word)) → NoneHas test wss → has_none test (between m wss) ≡ true
none_between test m t [] h = refl
none_between test m t (ws ∷ []) h = h.0
none_between test m t (ws ∷ vs ∷ wss) h =
    none_append test ws (m ∷ between m (vs ∷ wss)) h.0
    (and_from (not (test m)) (has_none test (between m (vs ∷ wss))) (ap not t) (none_between test m t (vs ∷ wss) h.1))

-- what is read of each
pub each_again : {A B : Type 0} (f : A → Option B) (g : B → A) → (P : B → Type 0) → ((y : B) → P y → f (g y) ≡ Some y) → (ys : List B) → All P ys → each f (map g ys) ≡ Some ys
each_again f g P k [] h = refl
each_again {B = B} f g P k (y ∷ ys) h =
    ap (λ o. elim o as (λ _. Option (List B)) [ None ↦ None | Some z ↦ option_map (λ zs. z ∷ zs) (each f (map g ys)) ]) (k y (All-head P y ys h))
    ∙ ap (option_map (λ zs. y ∷ zs)) (each_again f g P k ys (All-tail P y ys h))

-- ---- words in front of pieces

abbrev pub fronted : List Word → List (List Word) → List (List Word)
fronted [] ps = ps
fronted (w ∷ ws) ps = in_front w (fronted ws ps)

pub fronted_first : (ws p : List Word) (ps : List (List Word)) → fronted ws (p ∷ ps) ≡ (ws ++ p) ∷ ps
fronted_first [] p ps = refl
fronted_first (w ∷ ws) p ps = ap (in_front w) (fronted_first ws p ps)

pub fronted_both : (us vs : List Word) (ps : List (List Word)) → fronted (us ++ vs) ps ≡ fronted us (fronted vs ps)
fronted_both [] vs ps = refl
fronted_both (u ∷ us) vs ps = ap (in_front u) (fronted_both us vs ps)
