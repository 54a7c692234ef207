-- Rows that are made place by place.
use Rattle.std.proofs.Common.{◌≡◌, ap, ap₂, ℕ, ◌≤◌, Bool, false, List, arith, length, Option, Some, None, replicate}
use Rattle.std.specs.Prelude.{if◌then◌else◌}
use Rattle.std.proofs.Math.Path.{fun_ext}
use Rattle.std.proofs.lemmas.List.{length-replicate}
use Rattle.isp_base.specs.Sets.{flag_of}
use Rattle.isp_base.specs.Maps.{Lanes, Map, each1, each2, holds, lane_of, map1, map2, on, over, or_old, where_true}
use Rattle.isp_base.specs.Types.{widest}
use Rattle.isp_meaning.specs.Library.{chosen_one}
use Rattle.isp_meaning.specs.Payloads.{except, first_of_two, layer}
use Rattle.isp_gang_values.specs.Seen.{map_of}
use Rattle.isp_gang_values.proofs.Made.{Made, begins, made, past, repeated}

pub nothing_made : map_of (replicate widest None) ≡ (λ p. None)
nothing_made = fun_ext (λ p. repeated widest p None)

pub begun : (f : Map) → Made None f (replicate widest None) 0
begun f = begins None f (replicate widest None) (length-replicate {A = Option ℕ} widest None) (λ p. repeated widest p None)

pub begun_lanes : (f : Lanes) → Made 0 f (replicate widest 0) 0
begun_lanes f = begins 0 f (replicate widest 0) (length-replicate {A = ℕ} widest 0) (λ p. repeated widest p 0)

none_past : (xs : List (Option ℕ)) → length xs ≡ widest → (p : ℕ) → widest ≤ p → map_of xs p ≡ None
none_past xs long p h = past xs p None (omega (arith, long, h))

pub on_made : (set : List Bool) (f : Lanes) (zs : List (Option ℕ)) → length set ≡ widest → Made None (on (flag_of set) f) zs widest → map_of zs ≡ on (flag_of set) f
on_made set f zs long m = made None _ zs widest m (λ p h. ap (λ b. if b then Some (f p) else None) (past set p false (omega (arith, long, h))))

pub over_made : (xs : List (Option ℕ)) (old lanes : List ℕ) → length xs ≡ widest → length old ≡ widest → Made 0 (over (map_of xs) (lane_of old)) lanes widest → lane_of lanes ≡ over (map_of xs) (lane_of old)
over_made xs old lanes long long' m = made 0 _ lanes widest m (λ p h. ap₂ or_old (none_past xs long p h) (past old p 0 (omega (arith, long', h))))

pub layer_made : (xs ys zs : List (Option ℕ)) → length xs ≡ widest → length ys ≡ widest → Made None (layer (map_of xs) (map_of ys)) zs widest → map_of zs ≡ layer (map_of xs) (map_of ys)
layer_made xs ys zs long long' m = made None _ zs widest m (λ p h. ap₂ first_of_two (none_past xs long p h) (none_past ys long' p h))

pub except_made : (xs zs : List (Option ℕ)) (set : List Bool) → length xs ≡ widest → length set ≡ widest → Made None (except (map_of xs) (flag_of set)) zs widest → map_of zs ≡ except (map_of xs) (flag_of set)
except_made xs zs set long long' m = made None _ zs widest m (λ p h. ap₂ (λ b o. if b then None else o) (past set p false (omega (arith, long', h))) (none_past xs long p h))

pub map1_made : (f : ℕ → ℕ) (xs zs : List (Option ℕ)) → length xs ≡ widest → Made None (map1 f (map_of xs)) zs widest → map_of zs ≡ map1 f (map_of xs)
map1_made f xs zs long m = made None _ zs widest m (λ p h. ap (each1 f) (none_past xs long p h))

pub map2_made : (f : ℕ → ℕ → ℕ) (xs ys zs : List (Option ℕ)) → length xs ≡ widest → Made None (map2 f (map_of xs) (map_of ys)) zs widest → map_of zs ≡ map2 f (map_of xs) (map_of ys)
map2_made f xs ys zs long m = made None _ zs widest m (λ p h. ap (λ x. each2 f x (map_of ys p)) (none_past xs long p h))

pub where_made : (f : ℕ → Bool) (xs : List (Option ℕ)) (set : List Bool) → length xs ≡ widest → Made false (where_true f (map_of xs)) set widest → flag_of set ≡ where_true f (map_of xs)
where_made f xs set long m = made false _ set widest m (λ p h. ap (holds f) (none_past xs long p h))

pub chosen_made : (cs xs ys zs : List (Option ℕ)) → length cs ≡ widest → Made None (λ p. chosen_one (map_of cs p) (map_of xs p) (map_of ys p)) zs widest → map_of zs ≡ (λ p. chosen_one (map_of cs p) (map_of xs p) (map_of ys p))
chosen_made cs xs ys zs long m = made None _ zs widest m (λ p h. ap (λ c. chosen_one c (map_of xs p) (map_of ys p)) (none_past cs long p h))
