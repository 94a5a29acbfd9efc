-- What the entries of a store stand for, and when they are sound.
use Rattle.std.specs.Prelude.{◌≡◌, ◌≤◌, nat_eq, ℕ, List, Option, Some, None, false, slice_range, map, take, drop}
use Rattle.std.specs.List.{All, IsDistinct, list_any}
use Rattle.sf_base.specs.Data.{Datum, Bytes, Real, Assigned, datum_of_number}
use Rattle.sf_base.specs.stores.Kept.{assigned, Opened, Kept}
use Rattle.sf_base.specs.declared.stores.entries.Cell.{Cell}
use Rattle.sf_base.specs.declared.stores.entries.Cell.TheVariants as cell
use Rattle.sf_base.specs.declared.stores.entries.Entry.{Entry}

-- what a cell holds, where these are the closed texts
abbrev pub datum_in : List ℕ → Cell → Datum
datum_in closed (cell.Number number) = datum_of_number number
datum_in closed (cell.Text from to) = Bytes (slice_range closed from to)
datum_in closed (cell.Real r) = Real r

abbrev pub assigned_in : List ℕ → Entry → Assigned
assigned_in closed e = assigned e.slot (datum_in closed e.cell)

abbrev pub opened_at : List ℕ → Option ℕ → Option Opened
opened_at text None = None
opened_at text (Some slot) = Some (record { slot = slot; text = text })

-- what is kept, where the first n of these bytes are closed texts
abbrev pub kept_of : List Entry → List ℕ → ℕ → Option ℕ → ℕ → Kept
kept_of entries all n slot room = record {
  values = map (assigned_in (take n all)) entries;
  closed = take n all;
  opened = opened_at (drop n all) slot;
  room = room;
}

-- a text lies within so many bytes
abbrev pub IsWithin : ℕ → Cell → Type 0
IsWithin n (cell.Number number) = Unit {0}
IsWithin n (cell.Text from to) = (from ≤ to) × (to ≤ n)
IsWithin n (cell.Real r) = Unit {0}

abbrev pub slots_of : List Entry → List ℕ
slots_of = map (λ e. e.slot)

abbrev pub IsSlot : ℕ → ℕ → Type 0
IsSlot slots slot = (1 ≤ slot) × (slot ≤ slots)

-- no entry is for this slot
abbrev pub IsAbsent : ℕ → List ℕ → Type 0
IsAbsent slot taken = list_any (nat_eq slot) taken ≡ false

-- the bytes of no text follow the closed ones, or they are those of the text for this slot
abbrev pub IsUnderWay : ℕ → List ℕ → ℕ → ℕ → Option ℕ → Type 0
IsUnderWay slots taken closed len None = closed ≡ len
IsUnderWay slots taken closed len (Some slot) = IsSlot slots slot × IsAbsent slot taken

-- the entries of a store with so many slots, closed and held bytes, and this slot's text under way
pub record IsSound (slots : ℕ) (entries : List Entry) (closed len : ℕ) (slot : Option ℕ) : Type 0 where
  pub apart : IsDistinct nat_eq (slots_of entries)
  pub in_range : All (IsSlot slots) (slots_of entries)
  pub within : All (λ e. IsWithin closed e.cell) entries
  pub closed_held : closed ≤ len
  pub under_way : IsUnderWay slots (slots_of entries) closed len slot

-- the room of a heap: the bytes that are held, those that fit for sure, and the places for entries
pub record HasRoom (slots len fits capacity entries : ℕ) : Type 0 where
  pub held : len ≤ fits
  pub sure : fits ≤ capacity
  pub places : slots ≤ entries
