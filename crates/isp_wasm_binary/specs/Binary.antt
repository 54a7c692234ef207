-- The bytes of a module of isp_wasm_meaning, with what each has in common.
use Rattle.std.specs.Prelude.{◌≡◌, ℕ, zero, suc, ◌+◌, ◌/◌, List, [], ◌∷◌, ◌++◌, length, map, Option, Some, None, Bool, true, false, codes}
use Rattle.isp_wasm_meaning.specs.Module.{ValueType, I32, I64, V128, Function, Module}
use Rattle.isp_wasm_binary.specs.Instructions.{hosts}
use Rattle.isp_wasm_binary.specs.Modules.{FuncType, Import, Global, Group, Body, FunctionKind, MemoryKind, GlobalKind, Export, Piece, Sections, sections_bytes}
use Rattle.isp_wasm_binary.specs.Same.{code_words}

-- ---- types: those of the host's functions, and then one for each function

abbrev pub write_type : FuncType
write_type = record { params = I32 ∷ I32 ∷ []; results = [] }

abbrev pub trap_type : FuncType
trap_type = record { params = I32 ∷ I32 ∷ I32 ∷ I32 ∷ []; results = [] }

-- of what the host writes of a value
abbrev pub long_type : FuncType
long_type = record { params = I64 ∷ []; results = [] }

abbrev pub word_type : FuncType
word_type = record { params = I32 ∷ []; results = [] }

abbrev pub results_of : Option ValueType → List ValueType
results_of None = []
results_of (Some t) = t ∷ []

abbrev pub type_of : Function → FuncType
type_of f = record { params = f.params; results = results_of f.result }

abbrev pub host_imports : List Import
host_imports =
    record { from = codes "isp"; name = codes "write"; type = 0 } ∷ record { from = codes "isp"; name = codes "trap"; type = 1 }
    ∷ record { from = codes "isp"; name = codes "print_signed"; type = 2 } ∷ record { from = codes "isp"; name = codes "print_unsigned"; type = 3 }
    ∷ record { from = codes "isp"; name = codes "print_bool"; type = 4 } ∷ record { from = codes "isp"; name = codes "print_byte"; type = 5 } ∷ []

-- the parts of a vector that a function gives back
abbrev pub results : ℕ → List Global
results zero = []
results (suc n) = record { type = V128; changes = true; first = 0 } ∷ results n

-- ---- functions

abbrev pub is_same : ValueType → ValueType → Bool
is_same I32 I32 = true
is_same I64 I64 = true
is_same V128 V128 = true
is_same t u = false

-- locals of a type that stand one after the other are a group
abbrev pub one_more : Bool → ValueType → Group → List Group → List Group
one_more true t g gs = record g { count = suc g.count } ∷ gs
one_more false t g gs = record { count = 1; type = t } ∷ g ∷ gs

abbrev pub joined : ValueType → List Group → List Group
joined t [] = record { count = 1; type = t } ∷ []
joined t (g ∷ gs) = one_more (is_same t g.type) t g gs

abbrev pub grouped : List ValueType → List Group
grouped [] = []
grouped (t ∷ ts) = joined t (grouped ts)

-- from number f on; the type of each is its own
abbrev pub bodies : ℕ → List Function → List Body
bodies f [] = []
bodies f (h ∷ hs) = record { type = hosts + f; locals = grouped h.locals; code = h.code } ∷ bodies (suc f) hs

-- ---- memory and exports

abbrev pub named : Option (List ℕ) → ℕ → List Export → List Export
named None f es = es
named (Some name) f es = record { name = name; kind = FunctionKind; index = hosts + f } ∷ es

abbrev pub names : ℕ → List Function → List Export
names f [] = []
names f (h ∷ hs) = named h.export f (names (suc f) hs)

abbrev pub pieces_of : List ℕ → List Piece
pieces_of [] = []
pieces_of (b ∷ bs) = record { at = 0; has = b ∷ bs } ∷ []

-- after its first bytes, until a host says where
abbrev pub stack_of : Module → Global
stack_of m = record { type = I32; changes = true; first = length m.memory }

abbrev pub sections_of : Module → Sections
sections_of m =
    record {
      types = write_type ∷ trap_type ∷ long_type ∷ long_type ∷ word_type ∷ word_type ∷ map type_of m.functions;
      imports = host_imports;
      functions = bodies 0 m.functions;
      pages = length m.memory / 65536 + 1;
      globals = record { type = I32; changes = false; first = length m.memory } ∷ (results 16 ++ stack_of m ∷ []);
      exports =
          record { name = codes "isp.memory"; kind = MemoryKind; index = 0 } ∷ record { name = codes "isp.base"; kind = GlobalKind; index = 0 }
          ∷ record { name = codes "isp.stack"; kind = GlobalKind; index = 17 } ∷ names 0 m.functions;
      pieces = pieces_of m.memory;
    }

abbrev pub bytes_of : Module → List ℕ
bytes_of m = sections_bytes (sections_of m)

-- the same functions, but for how their code is folded, and the same memory
pub record SameModules (m n : Module) : Type 0 where
  pub exports_are : map (λ f. f.export) m.functions ≡ map (λ f. f.export) n.functions
  pub params_are : map (λ f. f.params) m.functions ≡ map (λ f. f.params) n.functions
  pub results_are : map (λ f. f.result) m.functions ≡ map (λ f. f.result) n.functions
  pub locals_are : map (λ f. f.locals) m.functions ≡ map (λ f. f.locals) n.functions
  pub words_are : map (λ f. code_words f.code) m.functions ≡ map (λ f. code_words f.code) n.functions
  pub memory_is : m.memory ≡ n.memory

-- no two modules that differ have the same bytes
abbrev pub ModulesTell : Type 0
ModulesTell = (m n : Module) → bytes_of m ≡ bytes_of n → SameModules m n
