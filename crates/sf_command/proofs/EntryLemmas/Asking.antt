-- The words that were read.
use Rattle.std.proofs.Common.{◌≡◌, ℕ, List, [], Result, Ok, Err}
use Rattle.std.specs.Prelude.{IfErr, IfOk}
use Rattle.sf_words.specs.declared.order.Order.{Order}
use Rattle.sf_words.specs.declared.order.WordsFault.{WordsFault}
use Rattle.sf_words.specs.Orders.{IsOrder, IsRefusal, faults_of}
use Rattle.sf_command.specs.entry.Exits.{CanRun, IsRead}

module _ (words : List (List ℕ)) where
  -- an order of words can be done
  pub can_run : (asked : Result Order WordsFault) → IfOk asked (IsOrder words) → CanRun asked
  can_run (Ok order) is = (is.small, is.enough)
  can_run (Err fault) is = tt

  pub was_read : (asked : Result Order WordsFault) → IfOk asked (IsOrder words) → IfOk asked (λ _. faults_of words ≡ [])
      → IfErr asked (IsRefusal (faults_of words)) → IsRead words asked
  was_read asked is taken refused = record { read = is; taken = taken; refused = refused }
