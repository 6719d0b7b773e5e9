-- Loops of programs against loops of clauses.
use Rattle.std.proofs.Common.{◌≡◌, ℕ, zero, suc, List, length, refl, ◌∙◌, ap}
use mathlib.Core.Path.{fun_ext}
use Rattle.native_protocol.specs.declared.request.Answer.{Answer}
use Rattle.native_protocol.specs.Steps.{Steps, throws_type_error}
use Rattle.native_programs.specs.Meaning.{each, endless}

-- ---- where the call keeps a function of what the loop of the clause keeps

-- where each turn does the same, the loops do the same: up, down, one in another
pub each_alike : {A B : Type 0} (kept : B → A) (body : A → (A → Steps) → Steps) (body' : B → (B → Steps) → Steps) (finish : A → Steps) (finish' : B → Steps)
    → ((again : A → Steps) (b : B) → body (kept b) again ≡ body' b (λ c. again (kept c))) → ((b : B) → finish (kept b) ≡ finish' b)
    → (n : ℕ) (b : B) → each n body finish (kept b) ≡ each n body' finish' b
unfolding each
each_alike kept body body' finish finish' h k zero b = k b
each_alike {B = B} kept body body' finish finish' h k (suc n) b =
    h (each n body finish) b ∙ ap (λ (f : B → Steps). body' b f) (fun_ext (λ c. each_alike kept body body' finish finish' h k n c))

pub endless_alike : {A B : Type 0} (kept : B → A) (body : A → (A → Steps) → Steps) (body' : B → (B → Steps) → Steps)
    → ((again : A → Steps) (b : B) → body (kept b) again ≡ body' b (λ c. again (kept c))) → (b : B) → endless body (kept b) ≡ endless body' b
unfolding endless
endless_alike {A = A} {B = B} kept body body' h b =
    fun_ext (λ answers. ap (λ (f : Steps). f answers) (each_alike kept body body' (λ (a : A). throws_type_error) (λ (c : B). throws_type_error) h (λ c. refl) (suc (length answers)) b))

-- ---- where something else is known of both, such as the range of an index: `R` relates what they keep with so many turns left

pub each_related : {A B : Type 0} (R : ℕ → A → B → Type 0) (body : A → (A → Steps) → Steps) (body' : B → (B → Steps) → Steps) (finish : A → Steps) (finish' : B → Steps)
    → ((n : ℕ) (again : A → Steps) (again' : B → Steps) (a : A) (b : B) → R (suc n) a b → ((c : A) (d : B) → R n c d → again c ≡ again' d) → body a again ≡ body' b again')
    → ((a : A) (b : B) → R zero a b → finish a ≡ finish' b)
    → (n : ℕ) (a : A) (b : B) → R n a b → each n body finish a ≡ each n body' finish' b
unfolding each
each_related R body body' finish finish' h k zero a b r = k a b r
each_related R body body' finish finish' h k (suc n) a b r =
    h n (each n body finish) (each n body' finish') a b r (λ c d s. each_related R body body' finish finish' h k n c d s)

endless_at : {A B : Type 0} (R : A → B → Type 0) (body : A → (A → Steps) → Steps) (body' : B → (B → Steps) → Steps)
    → ((again : A → Steps) (again' : B → Steps) (a : A) (b : B) → R a b → ((c : A) (d : B) → R c d → again c ≡ again' d) → body a again ≡ body' b again')
    → (a : A) (b : B) → R a b → (answers : List Answer) → endless body a answers ≡ endless body' b answers
unfolding endless
endless_at {A = A} {B = B} R body body' h a b r answers =
    ap (λ (f : Steps). f answers) (each_related (λ n c d. R c d) body body' (λ (c : A). throws_type_error) (λ (d : B). throws_type_error) (λ n again again' c d s t. h again again' c d s t) (λ c d s. refl) (suc (length answers)) a b r)

pub endless_related : {A B : Type 0} (R : A → B → Type 0) (body : A → (A → Steps) → Steps) (body' : B → (B → Steps) → Steps)
    → ((again : A → Steps) (again' : B → Steps) (a : A) (b : B) → R a b → ((c : A) (d : B) → R c d → again c ≡ again' d) → body a again ≡ body' b again')
    → (a : A) (b : B) → R a b → endless body a ≡ endless body' b
endless_related R body body' h a b r = fun_ext (endless_at R body body' h a b r)

-- ---- no turn, and one more

pub each_none : {A : Type 0} (body : A → (A → Steps) → Steps) (finish : A → Steps) (a : A) → each 0 body finish a ≡ finish a
unfolding each
each_none body finish a = refl

pub each_more : {A : Type 0} (n : ℕ) (body : A → (A → Steps) → Steps) (finish : A → Steps) (a : A) → each (suc n) body finish a ≡ body a (each n body finish)
unfolding each
each_more n body finish a = refl
