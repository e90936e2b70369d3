-- Lists of numbers: parts of one size, a stable sort, counting, and lists of tests.
use Rattle.std.specs.Prelude.{ℕ, zero, suc, ◌+◌, ◌*◌, ◌-◌, Bool, true, false, cond, ◌&&◌, List, [], ◌∷◌, ◌++◌, leb, eqb, length, take, drop, replicate}

-- part g of a list that is cut into parts of p, and the list with that part changed by f
abbrev pub slot : ℕ → ℕ → List ℕ → List ℕ
slot p g xs = take p (drop (g * p) xs)

abbrev pub on_slot : ℕ → ℕ → (List ℕ → List ℕ) → List ℕ → List ℕ
on_slot p g f xs = take (g * p) xs ++ (f (slot p g xs) ++ drop (g * p + p) xs)

-- a list without the first x, the others in order, a zero behind
unfoldable pub without : ℕ → List ℕ → List ℕ
without x [] = []
without x (y ∷ ys) = cond (eqb x y) (ys ++ (0 ∷ [])) (y ∷ without x ys)

-- a list of fixed size with x put at its front: the last slot falls off
unfoldable pub push_front : ℕ → List ℕ → List ℕ
push_front x q = x ∷ take (length q - 1) q

-- sorted by a key, and stable: an element stays before those of an equal key that stood behind it
unfoldable pub insert_by : (ℕ → ℕ) → ℕ → List ℕ → List ℕ
insert_by key x [] = x ∷ []
insert_by key x (y ∷ ys) = cond (leb (key x) (key y)) (x ∷ y ∷ ys) (y ∷ insert_by key x ys)

unfoldable pub sort_by : (ℕ → ℕ) → List ℕ → List ℕ
sort_by key [] = []
sort_by key (x ∷ xs) = insert_by key x (sort_by key xs)

-- xs with the elements of d laid in at off
unfoldable pub splice : ℕ → List ℕ → List ℕ → List ℕ
splice off d xs = take off xs ++ (d ++ drop (off + length d) xs)

abbrev pub zeros : ℕ → List ℕ
zeros k = replicate k 0

unfoldable pub total : List ℕ → ℕ
total [] = 0
total (x ∷ xs) = x + total xs

abbrev pub bit : Bool → ℕ
bit true = 1
bit false = 0

-- how often x stands in a list
unfoldable pub occ : ℕ → List ℕ → ℕ
occ x [] = 0
occ x (y ∷ ys) = bit (eqb x y) + occ x ys

-- f holds at each number below n
unfoldable pub all : ℕ → (ℕ → Bool) → Bool
all zero f = true
all (suc n) f = f n && all n f

-- every test of a list passes; every number is 0; every number is at most p
unfoldable pub every : List Bool → Bool
every [] = true
every (b ∷ bs) = b && every bs

unfoldable pub blank : List ℕ → Bool
blank [] = true
blank (x ∷ xs) = eqb x 0 && blank xs

unfoldable pub up_to : ℕ → List ℕ → Bool
up_to p [] = true
up_to p (x ∷ xs) = leb x p && up_to p xs

-- the number of the first test that fails, the first of the list being number k; 0 where none does
abbrev pub first_not : ℕ → List Bool → ℕ
first_not k [] = 0
first_not k (b ∷ bs) = cond b (first_not (suc k) bs) k
