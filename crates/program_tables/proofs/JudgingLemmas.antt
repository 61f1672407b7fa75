-- What is judged of a line, by what was found.
use Rattle.std.proofs.Common.{◌≡◌, ℕ, Bool, true, false, cond, List, Option, None, Some, refl, sym, ap, ◌∙◌}
use Rattle.std.specs.Prelude.{IsTrue, option_and_then, is_some, Ok, Err}
use Rattle.std.specs.List.{list_all}
use Rattle.wpds_port.specs.declared.Kind.TheVariants.{NotText, Form}
use Rattle.wpds_port.specs.declared.Word.{Word}
use Rattle.wpds_port.specs.Tokens.{is_lawful_word}
use Rattle.wpds_port.specs.Words.{text_words, if_lawful, lawful_words}
use Rattle.document_forms.specs.Lines.{Line, is_text}
use Rattle.document_forms.specs.Words.{guarded}
use Rattle.program_forms.specs.Forms.{LineForm, form_in, form_of}
use Rattle.program_forms.specs.Places.{Place, said, fits, judged_form, judged}

-- only words that a form takes have one
pub words_read : (line : List ℕ) (o : Option (List Word)) → o ≡ lawful_words line
    → option_and_then form_of (text_words line) ≡ option_and_then form_of o
words_read line o e = go (text_words line) ∙ ap (option_and_then form_of) (sym e)
  where
    go : (w : Option (List Word)) → option_and_then form_of w ≡ option_and_then form_of (option_and_then if_lawful w)
    go None = refl
    go (Some ws) = here (list_all is_lawful_word ws) refl
      where
        here : (b : Bool) → list_all is_lawful_word ws ≡ b → form_of ws ≡ option_and_then form_of (cond b (Some ws) None)
        here true h = refl
        here false h = ap (λ t. guarded t (form_in ws)) h

pub some_form : (o : Option LineForm) → IsTrue (is_some o) → (f : LineForm) × (o ≡ Some f)
some_form None e = cc
some_form (Some f) e = (f, refl)

abbrev line : ℕ → List ℕ → Line
line n bytes = record { number = n; bytes = bytes }

-- a line with this text and this form
by_text : (p : Place) (n : ℕ) (bytes : List ℕ) (b : Bool) → is_text bytes ≡ b
    → judged p (said (line n bytes)) ≡ cond b (judged_form p n (option_and_then form_of (text_words bytes))) (Err (n, NotText))
by_text p n bytes b e = ap (λ t. cond t (judged_form p n (option_and_then form_of (text_words bytes))) (Err (n, NotText))) e

pub no_text : (p : Place) (n : ℕ) (bytes : List ℕ) → is_text bytes ≡ false → judged p (said (line n bytes)) ≡ Err (n, NotText)
no_text p n bytes e = by_text p n bytes false e

pub no_form : (p : Place) (n : ℕ) (bytes : List ℕ) → is_text bytes ≡ true → option_and_then form_of (text_words bytes) ≡ None
    → judged p (said (line n bytes)) ≡ Err (n, Form)
no_form p n bytes e f = by_text p n bytes true e ∙ ap (judged_form p n) f

pub no_place : (p : Place) (n : ℕ) (bytes : List ℕ) (f : LineForm) → is_text bytes ≡ true → option_and_then form_of (text_words bytes) ≡ Some f
    → fits p f ≡ false → judged p (said (line n bytes)) ≡ Err (n, Form)
no_place p n bytes f e h l =
    by_text p n bytes true e ∙ ap (judged_form p n) h ∙ ap (λ t. cond t (Ok (record { number = n; form = f; place = p })) (Err (n, Form))) l

pub in_place : (p : Place) (n : ℕ) (bytes : List ℕ) (f : LineForm) → is_text bytes ≡ true → option_and_then form_of (text_words bytes) ≡ Some f
    → fits p f ≡ true → judged p (said (line n bytes)) ≡ Ok (record { number = n; form = f; place = p })
in_place p n bytes f e h l =
    by_text p n bytes true e ∙ ap (judged_form p n) h ∙ ap (λ t. cond t (Ok (record { number = n; form = f; place = p })) (Err (n, Form))) l
