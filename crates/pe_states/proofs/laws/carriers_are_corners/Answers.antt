use Rattle.std.proofs.Common.{◌^◌, ◌<◌}
use Rattle.std.proofs.lemmas.List.Elements.{All-from_recursion}
use Rattle.pe_states.specs.Carriers.{carrier_numbers}
use Rattle.pe_states.proofs.CarrierLaws.{carriers_within, carrier_numbers-below}
use Rattle.pe_states.proofs.laws.carriers_are_corners.Goals as goal

pub returns-clause-corners : goal.returns-clause-corners
returns-clause-corners c axes parent digits k few place fit small = carriers_within axes parent digits k few place fit small

pub returns-clause-numbers : goal.returns-clause-numbers
returns-clause-numbers c axes digits k few fit = All-from_recursion (λ n. n < 2 ^ axes) (carrier_numbers axes digits k) (carrier_numbers-below axes digits k few fit)
