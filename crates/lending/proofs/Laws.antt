-- What an entry promises is what its call with clean scratch does.
use Rattle.std.proofs.Common.{ℕ, ◌≤◌, ◌≡◌, List, [], ◌∷◌, take, replicate, sym, ap, ◌∙◌, subst}
use Rattle.std.proofs.lemmas.List.{take-replicate}
use Rattle.model.specs.Lists.{zeros}
use Rattle.model.specs.Numbers.{Answer}
use Rattle.model.specs.Device.{Flash}
use Rattle.model.specs.Entry.{Recorder, recorder, Lent, lent, Outcome, Answered}
use Rattle.model.proofs.Frame.{over, with_flash}
use Rattle.lending.specs.Does.{Does}

-- what is left beside the scratch, and the answer; what the scratch s is equal to may stand for it
pub does
    : (f : List (List ℕ) → Outcome) {s t k : List (List ℕ)} {u : Recorder} {b : List ℕ} {a : Answer}
    → Answered (f s) (lent u b k) a
    → s ≡ t
    → Does (f t) u b a
does f {u = u} {b = b} {a = a} A e =
    subst (λ s. Does (f s) u b a) e
    (record {
      unit_is = ap (λ (x : Lent). x.unit) A.left_is;
      buffer_is = ap (λ (x : Lent). x.buffer) A.left_is;
      answer_is = A.answer_is;
    })

-- an entry that is lent no flash, or its bytes alone, passes the rest of the flash by
pub beside
    : (f : Flash) {o o' : Outcome} {w u b : List ℕ} {g : Flash} {a : Answer}
    → o' ≡ over (with_flash f) o
    → Does o (recorder w u g) b a
    → Does o' (recorder w u f) b a
beside f e D =
    record {
      unit_is = ap (λ (r : Recorder). recorder r.words r.used f) D.unit_is ∙ sym (ap (λ (o : Outcome). o.left.unit) e);
      buffer_is = D.buffer_is ∙ sym (ap (λ (o : Outcome). o.left.buffer) e);
      answer_is = D.answer_is ∙ sym (ap (λ (o : Outcome). o.answer) e);
    }

-- a part of clean scratch, from its front
pub cut : (m : ℕ) {j k : ℕ} → j ≤ m → j ≡ k → take j (replicate m 0) ≡ zeros k
cut m {j} h e = take-replicate j m 0 h ∙ ap zeros e

-- one, two or three pieces of it
pub one : {a a' : List ℕ} → a ≡ a' → (a ∷ []) ≡ (a' ∷ [])
one e = rw e

pub two : {a a' b b' : List ℕ} → a ≡ a' → b ≡ b' → (a ∷ b ∷ []) ≡ (a' ∷ b' ∷ [])
two e f = rw (e, f)

pub three : {a a' b b' c c' : List ℕ} → a ≡ a' → b ≡ b' → c ≡ c' → (a ∷ b ∷ c ∷ []) ≡ (a' ∷ b' ∷ c' ∷ [])
three e f g = rw (e, f, g)
