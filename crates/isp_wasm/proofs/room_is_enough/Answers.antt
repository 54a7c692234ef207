use Rattle.isp_wasm.proofs.Rooms.{room_is_enough}
use Rattle.isp_wasm.proofs.room_is_enough.Goals as goal

pub returns : goal.returns
returns c = room_is_enough
