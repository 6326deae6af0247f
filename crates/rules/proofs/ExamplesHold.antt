-- C01 to C13, as a single list under a single claim: what the rules make of each example is what the paper says of it, whole images compared.
-- Assumes nothing.
use mathlib.Core.Path.{◌≡◌, refl}
use mathlib.Core.List.{map}
use Rattle.bits.specs.Bits.{digit, bit, put_bit}
use Rattle.rules.specs.Image.{page_byte, put, put_CPL}
use Rattle.rules.specs.Channels.{idcr_byte, ivr_byte, dcpr_byte, dapr_byte, data_byte, records_ok, member, distinct, all_bytes, list_ok}
use Rattle.rules.specs.Table.{rows, row_place, existing_bits}
use Rattle.rules.specs.Registers.{page_zero, record_place, records_place, place_of, stored_byte, lost_bits, write_at, write_of, reset_byte, reset_row, reset_rows, reset_of}
use Rattle.rules.specs.Sources.{sources, pending_bit, pending, unmasked, dma_enabled, external_level, level}
use Rattle.rules.specs.Triggers.{trigger_verdict, selects, selects_top, source_effect, raise_source, top_effect, raise_top, fired, trigger_of}
use Rattle.rules.specs.Requests.{request_of, eligible, is_at, won_by, candidate, first, winner_of_kind, winner_at_level, winner_of}
use Rattle.rules.specs.Transfer.{pair_of, moved_byte, less_one, advanced, settled, finished, served, register_transfer, transfer_of}
use Rattle.rules.specs.Arbitration.{vector_of, pushed, nested, cleared, acknowledged, granted, top_level, entered_top, arbitrate_of}
use Rattle.rules.specs.Return.{smallest, restored_level, popped, unnested, returned, return_of}
use Rattle.rules.specs.Steps.{lent_verdict, act_of, step_of}
use Rattle.rules.specs.Runs.{history}
use Rattle.rules.specs.Examples.{does, says, examples, ExamplesHold}

pub examples_hold : map (map does) examples ≡ map (map says) examples
unfolding digit bit put_bit page_byte put put_CPL rows row_place existing_bits idcr_byte ivr_byte dcpr_byte dapr_byte data_byte records_ok member distinct all_bytes list_ok page_zero record_place records_place place_of stored_byte lost_bits write_at write_of reset_byte reset_row reset_rows reset_of sources pending_bit pending unmasked dma_enabled external_level level trigger_verdict selects selects_top source_effect raise_source top_effect raise_top fired trigger_of request_of eligible is_at won_by candidate first winner_of_kind winner_at_level winner_of pair_of moved_byte less_one advanced settled finished served register_transfer transfer_of vector_of pushed nested cleared acknowledged granted top_level entered_top arbitrate_of smallest restored_level popped unnested returned return_of lent_verdict act_of step_of history examples
examples_hold = refl

-- which is the claim
pub printed : ExamplesHold
printed = examples_hold
