-- Whole fields, one after another: their runs joined, and facts that they keep.
use Rattle.std.proofs.Common.{◌≡◌, ℕ, ◌+◌, List, [], ◌∷◌, ◌++◌, length, refl, sym, ◌∙◌, ap, subst, arith, append_assoc, length-append}
use Rattle.std.specs.Prelude.{⊤}
use Rattle.std.specs.List.{concat}
use Rattle.std.proofs.lemmas.List.{append-nil}
use Rattle.zy_read.specs.Fields.{Judged, Fields}
use Rattle.zy_read.specs.Fields.Judged.{Then, Gives, Wrong}
use Rattle.zy_read.specs.Runs.{GoesOn, Runs}
use Rattle.zy_read.specs.Bytes.{AreBytes}
use Rattle.zy_read.proofs.ByteLemmas.{bytes_front, bytes_back}

-- ---- runs joined

pub concat_append : (parts others : List (List ℕ)) → concat (parts ++ others) ≡ concat parts ++ concat others
concat_append [] others = refl
concat_append (part ∷ parts) others = ap (λ (l : List ℕ). part ++ l) (concat_append parts others) ∙ sym (append_assoc part (concat parts) (concat others))

pub concat_one : (part : List ℕ) → concat (part ∷ []) ≡ part
concat_one part = append-nil part

-- a whole field leads on by what follows
goes_join : {S G F : Type 0} (judged : Judged S G F) (First Both : S → List G → Type 0) (given others : List G) → ((next : S) (rest : List G) → First next rest → Both next (rest ++ others)) → GoesOn judged First given → GoesOn judged Both (given ++ others)
goes_join (Then next) First Both given others on goes = on next given goes
goes_join {S} {G} (Gives next item) First Both given others on goes =
    (goes.0 ++ others, ap (λ (l : List G). l ++ others) goes.1, on next goes.0 goes.2)
goes_join (Wrong fault) First Both given others on goes = goes

-- a run after a run
pub runs_join : {S G F : Type 0} (fields : Fields S G F) (parts others : List (List ℕ)) (s t u : S) (at middle : ℕ) (given more : List G) → middle ≡ at + length (concat parts) → Runs fields s at parts t given → Runs fields t middle others u more → Runs fields s at (parts ++ others) u (given ++ more)
runs_join {S} {G} fields [] others s t u at middle given more there first second =
    let here : at ≡ middle = omega (arith, there) in
    rw (sym first.0, first.1, here) second
runs_join {S} {G} fields (field ∷ parts) others s t u at middle given more there first second = (
  first.0,
  goes_join (fields.judge s at field) (λ next rest. Runs fields next (at + length field) parts t rest) (λ next rest. Runs fields next (at + length field) (parts ++ others) u rest) given more
      (λ next rest run. runs_join fields parts others next t u (at + length field) middle rest more (there ∙ omega (arith, length-append field (concat parts))) run second)
      first.1,
)

-- ---- facts that whole fields keep

-- the fact holds after a whole field
abbrev pub After : {S G F : Type 0} → (S → List ℕ → List G → Type 0) → List ℕ → List G → Judged S G F → Type 0
After Holds text given (Then next) = Holds next text given
After Holds text given (Gives next item) = Holds next text (given ++ item ∷ [])
After Holds text given (Wrong fault) = ⊤

-- each whole field keeps the fact, where it is of such bytes
abbrev pub Keeps : {S G F : Type 0} → Fields S G F → (List ℕ → Type 0) → (S → List ℕ → List G → Type 0) → Type 0
Keeps {S} {G} fields Ok Holds =
    (s : S) (text field : List ℕ) (given : List G) → Ok field → Holds s text given → length field ≡ fields.width s
    → After Holds (text ++ field) given (fields.judge s (length text) field)

-- each part is of such bytes
abbrev pub EachPart : (List ℕ → Type 0) → List (List ℕ) → Type 0
EachPart Ok [] = ⊤
EachPart Ok (part ∷ parts) = Ok part × EachPart Ok parts

pub byte_parts : (parts : List (List ℕ)) → AreBytes (concat parts) → EachPart AreBytes parts
byte_parts [] all = tt
byte_parts (part ∷ parts) all = (bytes_front part (concat parts) all, byte_parts parts (bytes_back part (concat parts) all))

pub any_parts : (parts : List (List ℕ)) → EachPart (λ part. ⊤) parts
any_parts [] = tt
any_parts (part ∷ parts) = (tt, any_parts parts)

goes_keep : {S G F : Type 0} (judged : Judged S G F) (Holds : S → List ℕ → List G → Type 0) (Rest : S → List G → Type 0) (Goal : List G → Type 0) (text : List ℕ) (given others : List G)
    → ((next : S) (before rest : List G) → Holds next text before → Rest next rest → Goal (before ++ rest)) → After Holds text given judged → GoesOn judged Rest others → Goal (given ++ others)
goes_keep (Then next) Holds Rest Goal text given others on after goes = on next given others after goes
goes_keep {S} {G} (Gives next item) Holds Rest Goal text given others on after goes =
    subst Goal (append_assoc given (item ∷ []) goes.0 ∙ ap (λ (l : List G). given ++ l) (sym goes.1)) (on next (given ++ item ∷ []) goes.0 after goes.2)
goes_keep (Wrong fault) Holds Rest Goal text given others on after goes = absurd goes

-- so a run keeps it
pub runs_keep : {S G F : Type 0} (fields : Fields S G F) (Ok : List ℕ → Type 0) (Holds : S → List ℕ → List G → Type 0) (keeps : Keeps fields Ok Holds)
    (parts : List (List ℕ)) (s t : S) (text : List ℕ) (at : ℕ) (given others : List G) → at ≡ length text → EachPart Ok parts → Holds s text given → Runs fields s at parts t others → Holds t (text ++ concat parts) (given ++ others)
runs_keep {S} {G} fields Ok Holds keeps [] s t text at given others place each holds runs =
    rw (runs.0, runs.1, append-nil text, append-nil given) holds
runs_keep {S} {G} fields Ok Holds keeps (field ∷ parts) s t text at given others place each holds runs =
    goes_keep (fields.judge s at field) Holds (λ next rest. Runs fields next (at + length field) parts t rest) (λ l. Holds t (text ++ (field ++ concat parts)) l) (text ++ field) given others
    (λ next before rest after run.
    subst (λ (l : List ℕ). Holds t l (before ++ rest)) (append_assoc text field (concat parts))
    (runs_keep fields Ok Holds keeps parts next t (text ++ field) (at + length field) before rest (omega (arith, place, length-append text field)) each.1 after run))
    (subst (λ (n : ℕ). After Holds (text ++ field) given (fields.judge s n field)) (sym place) (keeps s text field given each.0 holds runs.0))
    runs.1
