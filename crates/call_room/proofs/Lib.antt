pub mod PutAt
pub mod ObjectRoom
