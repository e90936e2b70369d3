-- The guard of a public entry: how it ends, with what each of its tests said.
use mathlib.Core.Path.{◌≡◌, refl}
use mathlib.Core.Bool.{Bool, true, false}
use mathlib.Core.Logic.{◌⊎◌, inl, inr}
use Rattle.model.specs.declared.Cause.{Cause}
use Rattle.model.specs.declared.Cause.TheVariants.{Wrong, Unsound}
use Rattle.model.specs.Entry.{Lent, Outcome, refused, unless, guarded}

-- what holds of each refusal, where its test fails and those before it passed, and of the deed, where all passed, holds of both together
pub unless_ends : (P : Outcome → Type 0) (b : Bool) (c : Cause) (x : Lent) (o : Outcome) → (b ≡ false → P (refused c x)) → (b ≡ true → P o)
    → P (unless b c x o)
unfolding unless
unless_ends P true c x o w f = f refl
unless_ends P false c x o w f = w refl

pub guarded_ends : (P : Outcome → Type 0) (a b c d : Bool) (x : Lent) (o : Outcome)
    → (a ≡ false → P (refused Wrong x))
    → (a ≡ true → b ≡ false → P (refused Unsound x))
    → (a ≡ true → b ≡ true → (c ≡ false) ⊎ (d ≡ false) → P (refused Wrong x))
    → (a ≡ true → b ≡ true → c ≡ true → d ≡ true → P o)
    → P (guarded a b c d x o)
unfolding guarded
guarded_ends P a b c d x o w u v f =
    unless_ends P a Wrong x _ w
    (λ ha. unless_ends P b Unsound x _ (u ha)
    (λ hb. unless_ends P c Wrong x _ (λ e. v ha hb (inl e))
    (λ hc. unless_ends P d Wrong x o (λ e. v ha hb (inr e)) (λ hd. f ha hb hc hd))))
