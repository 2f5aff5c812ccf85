pub mod PoolsMut
