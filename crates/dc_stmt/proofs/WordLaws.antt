-- What the words of the grammar are.
use Rattle.std.proofs.Common.{◌≡◌, ℕ, true, false, List, [], ◌∷◌, Some, refl, sym, ap, ◌∙◌, inl, inr}
use Rattle.std.specs.Str.{bytes_eq}
use Rattle.std.proofs.lemmas.Bool.{cases_Bool, false≢true, true≢false}
use Rattle.std.proofs.lemmas.Slice.Eq.{bytes_eq-Decides}
use Rattle.dc_tree.specs.declared.token.Token.{Token}
use Rattle.dc_tree.specs.Names.{is_name}
use Rattle.dc_slices.specs.declared.keyword.Keyword.{Keyword}
use Rattle.dc_slices.specs.Words.{letters, keywords, keyword_among, keyword, is, is_reserved}

among-found : (words : List Keyword) (text : List ℕ) (word : Keyword) → keyword_among words text ≡ Some word → text ≡ letters word
among-found [] text word found = absurd (cc)
among-found (first ∷ rest) text word found =
    elim (cases_Bool (bytes_eq text (letters first))) [
      | inl same ↦
          let one : Some first ≡ Some word = rw same at found in
          let first_is : first ≡ word = cc in
          (bytes_eq-Decides text (letters first)).0 same ∙ ap letters first_is
      | inr other ↦ among-found rest text word (rw other at found)
    ]

-- a text is the word that it is found to be
pub keyword-found : (text : List ℕ) (word : Keyword) → keyword text ≡ Some word → text ≡ letters word
unfolding keyword
keyword-found text word is = among-found keywords text word is

pub word-found : (word : Keyword) (token : Token) → is word token ≡ true → token ≡ Token.Word (letters word)
word-found word (Token.Word text) same = ap (λ (letters : List ℕ). Token.Word letters) ((bytes_eq-Decides text (letters word)).0 same)
word-found word token same = absurd (false≢true same)

-- each word is found
pub keyword-is : (word : Keyword) → keyword (letters word) ≡ Some word
unfolding keyword
keyword-is Keyword.Program = refl
keyword-is word = refl

-- a reserved word is no name
reserved-none : (word : Keyword) → is_reserved word ≡ true → is_name (letters word) ≡ false
unfolding is_name
reserved-none Keyword.Recursive is = absurd (false≢true is)
reserved-none Keyword.Intrinsic is = absurd (false≢true is)
reserved-none Keyword.Only is = absurd (false≢true is)
reserved-none Keyword.Nothing is = absurd (false≢true is)
reserved-none Keyword.Dimension is = absurd (false≢true is)
reserved-none Keyword.Intent is = absurd (false≢true is)
reserved-none Keyword.Into is = absurd (false≢true is)
reserved-none Keyword.Out is = absurd (false≢true is)
reserved-none Keyword.InOut is = absurd (false≢true is)
reserved-none Keyword.Kind is = absurd (false≢true is)
reserved-none Keyword.Result is = absurd (false≢true is)
reserved-none Keyword.Default is = absurd (false≢true is)
reserved-none Keyword.While is = absurd (false≢true is)
reserved-none Keyword.Concurrent is = absurd (false≢true is)
reserved-none Keyword.Local is = absurd (false≢true is)
reserved-none Keyword.LocalInit is = absurd (false≢true is)
reserved-none Keyword.Shared is = absurd (false≢true is)
reserved-none Keyword.Reduce is = absurd (false≢true is)
reserved-none Keyword.Max is = absurd (false≢true is)
reserved-none Keyword.Min is = absurd (false≢true is)
reserved-none Keyword.Iand is = absurd (false≢true is)
reserved-none Keyword.Ior is = absurd (false≢true is)
reserved-none Keyword.Ieor is = absurd (false≢true is)
reserved-none word is = refl

-- a name is no reserved word
pub name-free : (text : List ℕ) (word : Keyword) → is_name text ≡ true → keyword text ≡ Some word → is_reserved word ≡ false
name-free text word named is =
    elim (cases_Bool (is_reserved word)) [
      | inl reserved ↦ absurd (true≢false (sym named ∙ ap is_name (keyword-found text word is) ∙ reserved-none word reserved))
      | inr free ↦ free
    ]
