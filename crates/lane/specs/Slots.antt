-- Promised: what the taker of a lane is shown at once.
use Rattle.std.specs.Prelude.{◌≡◌, ◌-◌, ◌≤◌, Bool, true, false, List, [], ◌∷◌, ◌++◌, length, take}
use Rattle.lane.specs.declared.item.Item.{Item}
use Rattle.lane.specs.declared.item.Slot.{Slot}
use Rattle.lane.specs.declared.item.Slot.TheVariants.{Single, Several}
use Rattle.lane.specs.Items.{is_finish, has_mark}

module _ {T : Type 0} where
  -- the items of a slot
  abbrev pub items_in : Slot T → List (Item T)
  items_in (Single x) = x ∷ []
  items_in (Several list) = list.items

  -- the items of the slots, one after another
  abbrev pub all_items : List (Slot T) → List (Item T)
  all_items [] = []
  all_items (s ∷ slots) = items_in s ++ all_items slots

  -- the slot has an item
  abbrev pub HasItem : Slot T → Type 0
  HasItem s = 1 ≤ length (items_in s)

  -- the truth of the answer, if the list has an item
  abbrev pub if_filled : List (Item T) → Bool → Bool
  if_filled [] answer = false
  if_filled (x ∷ xs) answer = answer

  -- each slot has an item
  abbrev pub have_items : List (Slot T) → Bool
  have_items [] = true
  have_items (s ∷ slots) = if_filled (items_in s) (have_items slots)

  -- the slot is the mark alone; no list has it
  abbrev pub is_mark : Slot T → Bool
  is_mark (Single x) = is_finish x
  is_mark (Several list) = false

  -- a slot with an item may follow where no mark stands
  abbrev pub AllowsSlot : List (Slot T) → Slot T → Type 0
  AllowsSlot before s = (has_mark (all_items before) ≡ false) × (HasItem s × (has_mark (items_in s) ≡ is_mark s))

-- what stands in a list before its rest
abbrev pub taken_before : {X : Type 0} → List X → List X → List X
taken_before whole rest = take (length whole - length rest) whole

-- a list ends with this rest
abbrev pub HoldsRest : {X : Type 0} → List X → List X → Type 0
HoldsRest whole rest = whole ≡ taken_before whole rest ++ rest
