-- What a message asks for, by JSON-RPC 2.0.
--     {"jsonrpc": "2.0", "id": 7, "method": "shutdown"}     a request: it has an id, and is answered
--     {"jsonrpc": "2.0", "method": "exit"}                  a notification
use Rattle.std.specs.Prelude.{◌≡◌, List, ℕ, Option, Some, codes}
use Rattle.serde_json.specs.Data.{Data, string}
use Rattle.serde_json.specs.Find.{get}

-- an object of version 2.0 with a method by name, and with an id and parameters where it has some
pub record IsCall (message : Data) (asked : Option Data) (name : List ℕ) (given : Option Data) : Type 0 where
  pub version : get (codes "jsonrpc") message ≡ Some (string (codes "2.0"))
  pub method : get (codes "method") message ≡ Some (string name)
  pub id : get (codes "id") message ≡ asked
  pub params : get (codes "params") message ≡ given

abbrev pub IsNoCall : Data → Type 0
IsNoCall message = (id : Option Data) (method : List ℕ) (params : Option Data) → ¬ (IsCall message id method params)
