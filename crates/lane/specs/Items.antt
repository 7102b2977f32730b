-- Promised: lists of items: the place of the mark, and the values.
use Rattle.std.specs.Prelude.{◌≡◌, Bool, true, false, List, [], ◌∷◌, ◌++◌, map}
use Rattle.lane.specs.declared.item.Item.{Item}
use Rattle.lane.specs.declared.item.Item.TheVariants.{One, Finish}

module _ {T : Type 0} where
  abbrev pub is_finish : Item T → Bool
  is_finish (One x) = false
  is_finish Finish = true

  -- the mark stands somewhere
  abbrev pub has_mark : List (Item T) → Bool
  has_mark [] = false
  has_mark (One x ∷ xs) = has_mark xs
  has_mark (Finish ∷ xs) = true

  -- the mark stands nowhere but last
  abbrev pub mark_last : List (Item T) → Bool
  mark_last [] = true
  mark_last (One x ∷ xs) = mark_last xs
  mark_last (Finish ∷ []) = true
  mark_last (Finish ∷ x ∷ xs) = false

  -- an item may follow these
  abbrev pub AllowsAfter : List (Item T) → Item T → Type 0
  AllowsAfter before x = has_mark before ≡ false

  -- the values, without the mark
  abbrev pub records : List (Item T) → List T
  records [] = []
  records (One x ∷ xs) = x ∷ records xs
  records (Finish ∷ xs) = records xs

  -- these values, and then the mark
  abbrev pub with_mark : List T → List (Item T)
  with_mark values = map One values ++ Finish ∷ []

-- the second list is the first, and then a rest
abbrev pub IsBeginning : {X : Type 0} → List X → List X → Type 0
IsBeginning {X} front whole = (rest : List X) × (whole ≡ front ++ rest)
